-- Written by tests/model/tables.py: change that script or cases.py, never this file.
use mathlib.Core.Path.{refl}
use mathlib.Core.List.{List, [], ◌∷◌}
use Rattle.guarantees.proofs.Everything.{everything}
use Rattle.agreement.specs.Cases.{nodes, fresh_from, to_unpack, to_unpack_check, leaves, number, answer, Case, ◌gives◌, Agree}

abbrev pub table41 : List Case
table41 =
    -- another number
    to_unpack (1 ∷ 255 ∷ 255 ∷ 255 ∷ 255 ∷ 127 ∷ 4 ∷ 10 ∷ []) 17 gives leaves (answer 24 1 0) (fresh_from 0 17)
    -- another number
    ∷ to_unpack_check (1 ∷ 255 ∷ 255 ∷ 255 ∷ 255 ∷ 127 ∷ 4 ∷ 10 ∷ []) gives number 1572865
    -- another number
    ∷ to_unpack (1 ∷ 255 ∷ 255 ∷ 255 ∷ 255 ∷ 127 ∷ []) 17 gives leaves (answer 24 1 0) (fresh_from 0 17)
    -- another number
    ∷ to_unpack_check (1 ∷ 255 ∷ 255 ∷ 255 ∷ 255 ∷ 127 ∷ []) gives number 1572865
    -- another number
    ∷ to_unpack (1 ∷ 0 ∷ 127 ∷ 10 ∷ []) 17 gives leaves (answer 0 0 1) (nodes ((0 ∷ 0 ∷ 0 ∷ 0 ∷ 127 ∷ 10 ∷ []) ∷ []))
    -- another number
    ∷ to_unpack_check (1 ∷ 0 ∷ 127 ∷ 10 ∷ []) gives number 327680
    -- another number
    ∷ to_unpack (1 ∷ 0 ∷ 127 ∷ []) 17 gives leaves (answer 20 3 0) (fresh_from 0 17)
    -- another number
    ∷ to_unpack_check (1 ∷ 0 ∷ 127 ∷ []) gives number 1310723
    -- another number
    ∷ to_unpack (1 ∷ 0 ∷ []) 17 gives leaves (answer 20 2 0) (fresh_from 0 17)
    -- another number
    ∷ to_unpack_check (1 ∷ 0 ∷ []) gives number 1310722
    -- another number
    ∷ to_unpack (1 ∷ 0 ∷ 128 ∷ 1 ∷ 10 ∷ []) 17 gives leaves (answer 0 0 1) (nodes ((0 ∷ 0 ∷ 0 ∷ 0 ∷ 128 ∷ 10 ∷ []) ∷ []))
    -- another number
    ∷ to_unpack_check (1 ∷ 0 ∷ 128 ∷ 1 ∷ 10 ∷ []) gives number 327680
    -- another number
    ∷ to_unpack (1 ∷ 0 ∷ 128 ∷ 1 ∷ []) 17 gives leaves (answer 20 4 0) (fresh_from 0 17)
    -- another number
    ∷ to_unpack_check (1 ∷ 0 ∷ 128 ∷ 1 ∷ []) gives number 1310724
    -- another number
    ∷ to_unpack (1 ∷ 0 ∷ 128 ∷ []) 17 gives leaves (answer 20 2 0) (fresh_from 0 17)
    -- another number
    ∷ to_unpack_check (1 ∷ 0 ∷ 128 ∷ []) gives number 1310722
    -- another number
    ∷ to_unpack (1 ∷ 0 ∷ 128 ∷ 0 ∷ 10 ∷ []) 17 gives leaves (answer 21 2 0) (fresh_from 0 17)
    -- another number
    ∷ to_unpack_check (1 ∷ 0 ∷ 128 ∷ 0 ∷ 10 ∷ []) gives number 1376258
    -- another number
    ∷ to_unpack (1 ∷ 0 ∷ 128 ∷ 0 ∷ []) 17 gives leaves (answer 21 2 0) (fresh_from 0 17)
    -- another number
    ∷ to_unpack_check (1 ∷ 0 ∷ 128 ∷ 0 ∷ []) gives number 1376258
    -- another number
    ∷ to_unpack (1 ∷ 0 ∷ 255 ∷ 127 ∷ 10 ∷ []) 17 gives leaves (answer 0 0 1) (nodes ((0 ∷ 0 ∷ 0 ∷ 0 ∷ 16383 ∷ 10 ∷ []) ∷ []))
    -- another number
    ∷ to_unpack_check (1 ∷ 0 ∷ 255 ∷ 127 ∷ 10 ∷ []) gives number 327680
    -- another number
    ∷ to_unpack (1 ∷ 0 ∷ 255 ∷ 127 ∷ []) 17 gives leaves (answer 20 4 0) (fresh_from 0 17)
    -- another number
    ∷ to_unpack_check (1 ∷ 0 ∷ 255 ∷ 127 ∷ []) gives number 1310724
    -- another number
    ∷ to_unpack (1 ∷ 0 ∷ 255 ∷ []) 17 gives leaves (answer 20 2 0) (fresh_from 0 17)
    -- another number
    ∷ to_unpack_check (1 ∷ 0 ∷ 255 ∷ []) gives number 1310722
    -- another number
    ∷ to_unpack (1 ∷ 0 ∷ 255 ∷ 255 ∷ 255 ∷ 255 ∷ 15 ∷ 10 ∷ []) 17 gives leaves (answer 0 0 1) (nodes ((0 ∷ 0 ∷ 0 ∷ 0 ∷ 4294967295 ∷ 10 ∷ []) ∷ []))
    -- another number
    ∷ to_unpack_check (1 ∷ 0 ∷ 255 ∷ 255 ∷ 255 ∷ 255 ∷ 15 ∷ 10 ∷ []) gives number 327680
    -- another number
    ∷ to_unpack (1 ∷ 0 ∷ 255 ∷ 255 ∷ 255 ∷ 255 ∷ 15 ∷ []) 17 gives leaves (answer 20 7 0) (fresh_from 0 17)
    -- another number
    ∷ to_unpack_check (1 ∷ 0 ∷ 255 ∷ 255 ∷ 255 ∷ 255 ∷ 15 ∷ []) gives number 1310727
    -- another number
    ∷ to_unpack (1 ∷ 0 ∷ 255 ∷ 255 ∷ 255 ∷ 255 ∷ []) 17 gives leaves (answer 20 2 0) (fresh_from 0 17)
    -- another number
    ∷ to_unpack_check (1 ∷ 0 ∷ 255 ∷ 255 ∷ 255 ∷ 255 ∷ []) gives number 1310722
    -- another number
    ∷ to_unpack (1 ∷ 0 ∷ 255 ∷ 255 ∷ 255 ∷ 255 ∷ 127 ∷ 10 ∷ []) 17 gives leaves (answer 0 0 1) (nodes ((0 ∷ 0 ∷ 0 ∷ 0 ∷ 34359738367 ∷ 10 ∷ []) ∷ []))
    -- another number
    ∷ to_unpack_check (1 ∷ 0 ∷ 255 ∷ 255 ∷ 255 ∷ 255 ∷ 127 ∷ 10 ∷ []) gives number 327680
    -- another number
    ∷ to_unpack (1 ∷ 0 ∷ 255 ∷ 255 ∷ 255 ∷ 255 ∷ 127 ∷ []) 17 gives leaves (answer 20 7 0) (fresh_from 0 17)
    -- another number
    ∷ to_unpack_check (1 ∷ 0 ∷ 255 ∷ 255 ∷ 255 ∷ 255 ∷ 127 ∷ []) gives number 1310727
    -- another number
    ∷ to_unpack (1 ∷ 0 ∷ 4 ∷ 127 ∷ []) 17 gives leaves (answer 0 0 1) (nodes ((0 ∷ 0 ∷ 0 ∷ 0 ∷ 4 ∷ 127 ∷ []) ∷ []))
    -- another number
    ∷ to_unpack_check (1 ∷ 0 ∷ 4 ∷ 127 ∷ []) gives number 1
    -- another number
    ∷ to_unpack (1 ∷ 0 ∷ 4 ∷ []) 17 gives leaves (answer 20 3 0) (fresh_from 0 17)
    -- another number
    ∷ to_unpack_check (1 ∷ 0 ∷ 4 ∷ []) gives number 1310723
    -- another number
    ∷ to_unpack (1 ∷ 0 ∷ 4 ∷ 128 ∷ 1 ∷ []) 17 gives leaves (answer 0 0 1) (nodes ((0 ∷ 0 ∷ 0 ∷ 0 ∷ 4 ∷ 128 ∷ []) ∷ []))
    -- another number
    ∷ to_unpack_check (1 ∷ 0 ∷ 4 ∷ 128 ∷ 1 ∷ []) gives number 1
    -- another number
    ∷ to_unpack (1 ∷ 0 ∷ 4 ∷ 128 ∷ []) 17 gives leaves (answer 20 3 0) (fresh_from 0 17)
    -- another number
    ∷ to_unpack_check (1 ∷ 0 ∷ 4 ∷ 128 ∷ []) gives number 1310723
    -- another number
    ∷ to_unpack (1 ∷ 0 ∷ 4 ∷ 128 ∷ 0 ∷ []) 17 gives leaves (answer 21 3 0) (fresh_from 0 17)
    -- another number
    ∷ to_unpack_check (1 ∷ 0 ∷ 4 ∷ 128 ∷ 0 ∷ []) gives number 1376259
    -- another number
    ∷ to_unpack (1 ∷ 0 ∷ 4 ∷ 255 ∷ 127 ∷ []) 17 gives leaves (answer 0 0 1) (nodes ((0 ∷ 0 ∷ 0 ∷ 0 ∷ 4 ∷ 16383 ∷ []) ∷ []))
    -- another number
    ∷ to_unpack_check (1 ∷ 0 ∷ 4 ∷ 255 ∷ 127 ∷ []) gives number 1
    -- another number
    ∷ to_unpack (1 ∷ 0 ∷ 4 ∷ 255 ∷ []) 17 gives leaves (answer 20 3 0) (fresh_from 0 17)
    -- another number
    ∷ to_unpack_check (1 ∷ 0 ∷ 4 ∷ 255 ∷ []) gives number 1310723
    ∷ []

pub table41_agrees : Agree table41
unfolding everything
table41_agrees = refl
