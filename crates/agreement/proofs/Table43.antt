-- Written by tests/model/tables.py: change that script or cases.py, never this file.
use mathlib.Core.Path.{refl}
use mathlib.Core.List.{List, [], ◌∷◌}
use Rattle.guarantees.proofs.Everything.{everything}
use Rattle.agreement.specs.Cases.{nodes, fresh_from, to_unpack, to_unpack_check, leaves, number, answer, Case, ◌gives◌, Agree}

abbrev pub table43 : List Case
table43 =
    -- another number
    to_unpack (0 ∷ 2 ∷ 1 ∷ 255 ∷ 127 ∷ []) 17 gives leaves (answer 24 3 0) (fresh_from 0 17)
    -- another number
    ∷ to_unpack_check (0 ∷ 2 ∷ 1 ∷ 255 ∷ 127 ∷ []) gives number 1572867
    -- another number
    ∷ to_unpack (0 ∷ 2 ∷ 1 ∷ 255 ∷ []) 17 gives leaves (answer 20 3 0) (fresh_from 0 17)
    -- another number
    ∷ to_unpack_check (0 ∷ 2 ∷ 1 ∷ 255 ∷ []) gives number 1310723
    -- another number
    ∷ to_unpack (0 ∷ 2 ∷ 1 ∷ 255 ∷ 255 ∷ 255 ∷ 255 ∷ 15 ∷ 0 ∷ 0 ∷ []) 17 gives leaves (answer 24 3 0) (fresh_from 0 17)
    -- another number
    ∷ to_unpack_check (0 ∷ 2 ∷ 1 ∷ 255 ∷ 255 ∷ 255 ∷ 255 ∷ 15 ∷ 0 ∷ 0 ∷ []) gives number 1572867
    -- another number
    ∷ to_unpack (0 ∷ 2 ∷ 1 ∷ 255 ∷ 255 ∷ 255 ∷ 255 ∷ 15 ∷ []) 17 gives leaves (answer 24 3 0) (fresh_from 0 17)
    -- another number
    ∷ to_unpack_check (0 ∷ 2 ∷ 1 ∷ 255 ∷ 255 ∷ 255 ∷ 255 ∷ 15 ∷ []) gives number 1572867
    -- another number
    ∷ to_unpack (0 ∷ 2 ∷ 1 ∷ 255 ∷ 255 ∷ 255 ∷ 255 ∷ []) 17 gives leaves (answer 20 3 0) (fresh_from 0 17)
    -- another number
    ∷ to_unpack_check (0 ∷ 2 ∷ 1 ∷ 255 ∷ 255 ∷ 255 ∷ 255 ∷ []) gives number 1310723
    -- another number
    ∷ to_unpack (0 ∷ 2 ∷ 1 ∷ 255 ∷ 255 ∷ 255 ∷ 255 ∷ 127 ∷ 0 ∷ 0 ∷ []) 17 gives leaves (answer 24 3 0) (fresh_from 0 17)
    -- another number
    ∷ to_unpack_check (0 ∷ 2 ∷ 1 ∷ 255 ∷ 255 ∷ 255 ∷ 255 ∷ 127 ∷ 0 ∷ 0 ∷ []) gives number 1572867
    -- another number
    ∷ to_unpack (0 ∷ 2 ∷ 1 ∷ 255 ∷ 255 ∷ 255 ∷ 255 ∷ 127 ∷ []) 17 gives leaves (answer 24 3 0) (fresh_from 0 17)
    -- another number
    ∷ to_unpack_check (0 ∷ 2 ∷ 1 ∷ 255 ∷ 255 ∷ 255 ∷ 255 ∷ 127 ∷ []) gives number 1572867
    -- another number
    ∷ to_unpack (0 ∷ 2 ∷ 1 ∷ 21 ∷ 127 ∷ 0 ∷ []) 17 gives leaves (answer 0 0 1) (nodes ((42 ∷ 127 ∷ []) ∷ []))
    -- another number
    ∷ to_unpack_check (0 ∷ 2 ∷ 1 ∷ 21 ∷ 127 ∷ 0 ∷ []) gives number 262144
    -- another number
    ∷ to_unpack (0 ∷ 2 ∷ 1 ∷ 21 ∷ 127 ∷ []) 17 gives leaves (answer 20 5 0) (fresh_from 0 17)
    -- another number
    ∷ to_unpack_check (0 ∷ 2 ∷ 1 ∷ 21 ∷ 127 ∷ []) gives number 1310725
    -- another number
    ∷ to_unpack (0 ∷ 2 ∷ 1 ∷ 21 ∷ []) 17 gives leaves (answer 20 4 0) (fresh_from 0 17)
    -- another number
    ∷ to_unpack_check (0 ∷ 2 ∷ 1 ∷ 21 ∷ []) gives number 1310724
    -- another number
    ∷ to_unpack (0 ∷ 2 ∷ 1 ∷ 21 ∷ 128 ∷ 1 ∷ 0 ∷ []) 17 gives leaves (answer 0 0 1) (nodes ((42 ∷ 128 ∷ []) ∷ []))
    -- another number
    ∷ to_unpack_check (0 ∷ 2 ∷ 1 ∷ 21 ∷ 128 ∷ 1 ∷ 0 ∷ []) gives number 262144
    -- another number
    ∷ to_unpack (0 ∷ 2 ∷ 1 ∷ 21 ∷ 128 ∷ 1 ∷ []) 17 gives leaves (answer 20 6 0) (fresh_from 0 17)
    -- another number
    ∷ to_unpack_check (0 ∷ 2 ∷ 1 ∷ 21 ∷ 128 ∷ 1 ∷ []) gives number 1310726
    -- another number
    ∷ to_unpack (0 ∷ 2 ∷ 1 ∷ 21 ∷ 128 ∷ []) 17 gives leaves (answer 20 4 0) (fresh_from 0 17)
    -- another number
    ∷ to_unpack_check (0 ∷ 2 ∷ 1 ∷ 21 ∷ 128 ∷ []) gives number 1310724
    -- another number
    ∷ to_unpack (0 ∷ 2 ∷ 1 ∷ 21 ∷ 128 ∷ 0 ∷ 0 ∷ []) 17 gives leaves (answer 21 4 0) (fresh_from 0 17)
    -- another number
    ∷ to_unpack_check (0 ∷ 2 ∷ 1 ∷ 21 ∷ 128 ∷ 0 ∷ 0 ∷ []) gives number 1376260
    -- another number
    ∷ to_unpack (0 ∷ 2 ∷ 1 ∷ 21 ∷ 128 ∷ 0 ∷ []) 17 gives leaves (answer 21 4 0) (fresh_from 0 17)
    -- another number
    ∷ to_unpack_check (0 ∷ 2 ∷ 1 ∷ 21 ∷ 128 ∷ 0 ∷ []) gives number 1376260
    -- another number
    ∷ to_unpack (0 ∷ 2 ∷ 1 ∷ 21 ∷ 255 ∷ 127 ∷ 0 ∷ []) 17 gives leaves (answer 0 0 1) (nodes ((42 ∷ 16383 ∷ []) ∷ []))
    -- another number
    ∷ to_unpack_check (0 ∷ 2 ∷ 1 ∷ 21 ∷ 255 ∷ 127 ∷ 0 ∷ []) gives number 262144
    -- another number
    ∷ to_unpack (0 ∷ 2 ∷ 1 ∷ 21 ∷ 255 ∷ 127 ∷ []) 17 gives leaves (answer 20 6 0) (fresh_from 0 17)
    -- another number
    ∷ to_unpack_check (0 ∷ 2 ∷ 1 ∷ 21 ∷ 255 ∷ 127 ∷ []) gives number 1310726
    -- another number
    ∷ to_unpack (0 ∷ 2 ∷ 1 ∷ 21 ∷ 255 ∷ []) 17 gives leaves (answer 20 4 0) (fresh_from 0 17)
    -- another number
    ∷ to_unpack_check (0 ∷ 2 ∷ 1 ∷ 21 ∷ 255 ∷ []) gives number 1310724
    -- another number
    ∷ to_unpack (0 ∷ 2 ∷ 1 ∷ 21 ∷ 255 ∷ 255 ∷ 255 ∷ 255 ∷ 15 ∷ 0 ∷ []) 17 gives leaves (answer 0 0 1) (nodes ((42 ∷ 4294967295 ∷ []) ∷ []))
    -- another number
    ∷ to_unpack_check (0 ∷ 2 ∷ 1 ∷ 21 ∷ 255 ∷ 255 ∷ 255 ∷ 255 ∷ 15 ∷ 0 ∷ []) gives number 262144
    -- another number
    ∷ to_unpack (0 ∷ 2 ∷ 1 ∷ 21 ∷ 255 ∷ 255 ∷ 255 ∷ 255 ∷ 15 ∷ []) 17 gives leaves (answer 20 9 0) (fresh_from 0 17)
    -- another number
    ∷ to_unpack_check (0 ∷ 2 ∷ 1 ∷ 21 ∷ 255 ∷ 255 ∷ 255 ∷ 255 ∷ 15 ∷ []) gives number 1310729
    -- another number
    ∷ to_unpack (0 ∷ 2 ∷ 1 ∷ 21 ∷ 255 ∷ 255 ∷ 255 ∷ 255 ∷ []) 17 gives leaves (answer 20 4 0) (fresh_from 0 17)
    -- another number
    ∷ to_unpack_check (0 ∷ 2 ∷ 1 ∷ 21 ∷ 255 ∷ 255 ∷ 255 ∷ 255 ∷ []) gives number 1310724
    -- another number
    ∷ to_unpack (0 ∷ 2 ∷ 1 ∷ 21 ∷ 255 ∷ 255 ∷ 255 ∷ 255 ∷ 127 ∷ 0 ∷ []) 17 gives leaves (answer 0 0 1) (nodes ((42 ∷ 34359738367 ∷ []) ∷ []))
    -- another number
    ∷ to_unpack_check (0 ∷ 2 ∷ 1 ∷ 21 ∷ 255 ∷ 255 ∷ 255 ∷ 255 ∷ 127 ∷ 0 ∷ []) gives number 262144
    -- another number
    ∷ to_unpack (0 ∷ 2 ∷ 1 ∷ 21 ∷ 255 ∷ 255 ∷ 255 ∷ 255 ∷ 127 ∷ []) 17 gives leaves (answer 20 9 0) (fresh_from 0 17)
    -- another number
    ∷ to_unpack_check (0 ∷ 2 ∷ 1 ∷ 21 ∷ 255 ∷ 255 ∷ 255 ∷ 255 ∷ 127 ∷ []) gives number 1310729
    -- another number
    ∷ to_unpack (0 ∷ 2 ∷ 1 ∷ 21 ∷ 0 ∷ 127 ∷ []) 17 gives leaves (answer 0 0 1) (nodes ((42 ∷ 0 ∷ 127 ∷ []) ∷ []))
    -- another number
    ∷ to_unpack_check (0 ∷ 2 ∷ 1 ∷ 21 ∷ 0 ∷ 127 ∷ []) gives number 262144
    -- another number
    ∷ to_unpack (0 ∷ 2 ∷ 1 ∷ 21 ∷ 0 ∷ []) 17 gives leaves (answer 20 5 0) (fresh_from 0 17)
    -- another number
    ∷ to_unpack_check (0 ∷ 2 ∷ 1 ∷ 21 ∷ 0 ∷ []) gives number 1310725
    ∷ []

pub table43_agrees : Agree table43
unfolding everything
table43_agrees = refl
