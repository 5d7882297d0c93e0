-- Written by tests/model/tables.py: change that script or cases.py, never this file.
use mathlib.Core.Path.{refl}
use mathlib.Core.List.{List, [], ◌∷◌, ◌++◌}
use Rattle.guarantees.proofs.Everything.{everything}
use Rattle.agreement.specs.Cases.{nodes, times, fresh_from, to_unpack, to_unpack_check, leaves, number, answer, Case, ◌gives◌, Agree}

abbrev pub table44 : List Case
table44 =
    -- another number
    to_unpack (0 ∷ 2 ∷ 1 ∷ 21 ∷ 0 ∷ 128 ∷ 1 ∷ []) 17 gives leaves (answer 0 0 1) (nodes ((42 ∷ 0 ∷ 128 ∷ []) ∷ []))
    -- another number
    ∷ to_unpack_check (0 ∷ 2 ∷ 1 ∷ 21 ∷ 0 ∷ 128 ∷ 1 ∷ []) gives number 262144
    -- another number
    ∷ to_unpack (0 ∷ 2 ∷ 1 ∷ 21 ∷ 0 ∷ 128 ∷ []) 17 gives leaves (answer 20 5 0) (fresh_from 0 17)
    -- another number
    ∷ to_unpack_check (0 ∷ 2 ∷ 1 ∷ 21 ∷ 0 ∷ 128 ∷ []) gives number 1310725
    -- another number
    ∷ to_unpack (0 ∷ 2 ∷ 1 ∷ 21 ∷ 0 ∷ 128 ∷ 0 ∷ []) 17 gives leaves (answer 21 5 0) (fresh_from 0 17)
    -- another number
    ∷ to_unpack_check (0 ∷ 2 ∷ 1 ∷ 21 ∷ 0 ∷ 128 ∷ 0 ∷ []) gives number 1376261
    -- another number
    ∷ to_unpack (0 ∷ 2 ∷ 1 ∷ 21 ∷ 0 ∷ 255 ∷ 127 ∷ []) 17 gives leaves (answer 0 0 1) (nodes ((42 ∷ 0 ∷ 16383 ∷ []) ∷ []))
    -- another number
    ∷ to_unpack_check (0 ∷ 2 ∷ 1 ∷ 21 ∷ 0 ∷ 255 ∷ 127 ∷ []) gives number 262144
    -- another number
    ∷ to_unpack (0 ∷ 2 ∷ 1 ∷ 21 ∷ 0 ∷ 255 ∷ []) 17 gives leaves (answer 20 5 0) (fresh_from 0 17)
    -- another number
    ∷ to_unpack_check (0 ∷ 2 ∷ 1 ∷ 21 ∷ 0 ∷ 255 ∷ []) gives number 1310725
    -- another number
    ∷ to_unpack (0 ∷ 2 ∷ 1 ∷ 21 ∷ 0 ∷ 255 ∷ 255 ∷ 255 ∷ 255 ∷ 15 ∷ []) 17 gives leaves (answer 0 0 1) (nodes ((42 ∷ 0 ∷ 4294967295 ∷ []) ∷ []))
    -- another number
    ∷ to_unpack_check (0 ∷ 2 ∷ 1 ∷ 21 ∷ 0 ∷ 255 ∷ 255 ∷ 255 ∷ 255 ∷ 15 ∷ []) gives number 262144
    -- another number
    ∷ to_unpack (0 ∷ 2 ∷ 1 ∷ 21 ∷ 0 ∷ 255 ∷ 255 ∷ 255 ∷ 255 ∷ []) 17 gives leaves (answer 20 5 0) (fresh_from 0 17)
    -- another number
    ∷ to_unpack_check (0 ∷ 2 ∷ 1 ∷ 21 ∷ 0 ∷ 255 ∷ 255 ∷ 255 ∷ 255 ∷ []) gives number 1310725
    -- another number
    ∷ to_unpack (0 ∷ 2 ∷ 1 ∷ 21 ∷ 0 ∷ 255 ∷ 255 ∷ 255 ∷ 255 ∷ 127 ∷ []) 17 gives leaves (answer 0 0 1) (nodes ((42 ∷ 0 ∷ 34359738367 ∷ []) ∷ []))
    -- another number
    ∷ to_unpack_check (0 ∷ 2 ∷ 1 ∷ 21 ∷ 0 ∷ 255 ∷ 255 ∷ 255 ∷ 255 ∷ 127 ∷ []) gives number 262144
    -- another count
    ∷ to_unpack_check ((127 ∷ []) ++ times 127 (0 ∷ 4 ∷ 10 ∷ [])) gives number 127
    -- another count
    ∷ to_unpack_check ((127 ∷ []) ++ times 126 (0 ∷ 4 ∷ 10 ∷ []) ++ (0 ∷ 4 ∷ [])) gives number 1311101
    -- another count
    ∷ to_unpack_check ((127 ∷ []) ++ times 127 (0 ∷ 4 ∷ 10 ∷ []) ++ (0 ∷ [])) gives number 1442174
    -- another count
    ∷ to_unpack_check ((0 ∷ 2 ∷ 127 ∷ []) ++ times 126 (0 ∷ 4 ∷ 10 ∷ []) ++ (22 ∷ 0 ∷ [])) gives number 127
    -- another count
    ∷ to_unpack_check ((0 ∷ 2 ∷ 127 ∷ []) ++ times 126 (0 ∷ 4 ∷ 10 ∷ []) ++ (22 ∷ [])) gives number 1311102
    -- another count
    ∷ to_unpack_check ((0 ∷ 2 ∷ 127 ∷ []) ++ times 126 (0 ∷ 4 ∷ 10 ∷ []) ++ (22 ∷ 0 ∷ 0 ∷ [])) gives number 1442175
    -- another count
    ∷ to_unpack_check ((128 ∷ 1 ∷ []) ++ times 128 (0 ∷ 4 ∷ 10 ∷ [])) gives number 128
    -- another count
    ∷ to_unpack_check ((128 ∷ 1 ∷ []) ++ times 127 (0 ∷ 4 ∷ 10 ∷ []) ++ (0 ∷ 4 ∷ [])) gives number 1311105
    -- another count
    ∷ to_unpack_check ((128 ∷ 1 ∷ []) ++ times 128 (0 ∷ 4 ∷ 10 ∷ []) ++ (0 ∷ [])) gives number 1442178
    -- another count
    ∷ to_unpack_check ((0 ∷ 2 ∷ 128 ∷ 1 ∷ []) ++ times 127 (0 ∷ 4 ∷ 10 ∷ []) ++ (22 ∷ 0 ∷ [])) gives number 128
    -- another count
    ∷ to_unpack_check ((0 ∷ 2 ∷ 128 ∷ 1 ∷ []) ++ times 127 (0 ∷ 4 ∷ 10 ∷ []) ++ (22 ∷ [])) gives number 1311106
    -- another count
    ∷ to_unpack_check ((0 ∷ 2 ∷ 128 ∷ 1 ∷ []) ++ times 127 (0 ∷ 4 ∷ 10 ∷ []) ++ (22 ∷ 0 ∷ 0 ∷ [])) gives number 1442179
    ∷ []

pub table44_agrees : Agree table44
unfolding everything
table44_agrees = refl
