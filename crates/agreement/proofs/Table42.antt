-- Written by tests/model/tables.py: change that script or cases.py, never this file.
use mathlib.Core.Path.{refl}
use mathlib.Core.List.{List, [], ◌∷◌}
use Rattle.guarantees.proofs.Everything.{everything}
use Rattle.agreement.specs.Cases.{nodes, fresh_from, to_unpack, to_unpack_check, leaves, number, answer, Case, ◌gives◌, Agree}

abbrev pub table42 : List Case
table42 =
    -- another number
    to_unpack (1 ∷ 0 ∷ 4 ∷ 255 ∷ 255 ∷ 255 ∷ 255 ∷ 15 ∷ []) 17 gives leaves (answer 0 0 1) (nodes ((0 ∷ 0 ∷ 0 ∷ 0 ∷ 4 ∷ 4294967295 ∷ []) ∷ []))
    -- another number
    ∷ to_unpack_check (1 ∷ 0 ∷ 4 ∷ 255 ∷ 255 ∷ 255 ∷ 255 ∷ 15 ∷ []) gives number 720896
    -- another number
    ∷ to_unpack (1 ∷ 0 ∷ 4 ∷ 255 ∷ 255 ∷ 255 ∷ 255 ∷ []) 17 gives leaves (answer 20 3 0) (fresh_from 0 17)
    -- another number
    ∷ to_unpack_check (1 ∷ 0 ∷ 4 ∷ 255 ∷ 255 ∷ 255 ∷ 255 ∷ []) gives number 1310723
    -- another number
    ∷ to_unpack (1 ∷ 0 ∷ 4 ∷ 255 ∷ 255 ∷ 255 ∷ 255 ∷ 127 ∷ []) 17 gives leaves (answer 0 0 1) (nodes ((0 ∷ 0 ∷ 0 ∷ 0 ∷ 4 ∷ 34359738367 ∷ []) ∷ []))
    -- another number
    ∷ to_unpack_check (1 ∷ 0 ∷ 4 ∷ 255 ∷ 255 ∷ 255 ∷ 255 ∷ 127 ∷ []) gives number 720896
    -- another number
    ∷ to_unpack (0 ∷ 2 ∷ 127 ∷ 21 ∷ 0 ∷ 0 ∷ []) 17 gives leaves (answer 14 0 0) (fresh_from 0 17)
    -- another number
    ∷ to_unpack_check (0 ∷ 2 ∷ 127 ∷ 21 ∷ 0 ∷ 0 ∷ []) gives number 1310726
    -- another number
    ∷ to_unpack (0 ∷ 2 ∷ 127 ∷ []) 17 gives leaves (answer 14 0 0) (fresh_from 0 17)
    -- another number
    ∷ to_unpack_check (0 ∷ 2 ∷ 127 ∷ []) gives number 1310723
    -- another number
    ∷ to_unpack (0 ∷ 2 ∷ []) 17 gives leaves (answer 20 2 0) (fresh_from 0 17)
    -- another number
    ∷ to_unpack (0 ∷ 2 ∷ 128 ∷ 1 ∷ 21 ∷ 0 ∷ 0 ∷ []) 17 gives leaves (answer 14 0 0) (fresh_from 0 17)
    -- another number
    ∷ to_unpack_check (0 ∷ 2 ∷ 128 ∷ 1 ∷ 21 ∷ 0 ∷ 0 ∷ []) gives number 1310727
    -- another number
    ∷ to_unpack (0 ∷ 2 ∷ 128 ∷ 1 ∷ []) 17 gives leaves (answer 14 0 0) (fresh_from 0 17)
    -- another number
    ∷ to_unpack_check (0 ∷ 2 ∷ 128 ∷ 1 ∷ []) gives number 1310724
    -- another number
    ∷ to_unpack (0 ∷ 2 ∷ 128 ∷ []) 17 gives leaves (answer 20 2 0) (fresh_from 0 17)
    -- another number
    ∷ to_unpack_check (0 ∷ 2 ∷ 128 ∷ []) gives number 1310722
    -- another number
    ∷ to_unpack (0 ∷ 2 ∷ 128 ∷ 0 ∷ 21 ∷ 0 ∷ 0 ∷ []) 17 gives leaves (answer 21 2 0) (fresh_from 0 17)
    -- another number
    ∷ to_unpack_check (0 ∷ 2 ∷ 128 ∷ 0 ∷ 21 ∷ 0 ∷ 0 ∷ []) gives number 1376258
    -- another number
    ∷ to_unpack (0 ∷ 2 ∷ 128 ∷ 0 ∷ []) 17 gives leaves (answer 21 2 0) (fresh_from 0 17)
    -- another number
    ∷ to_unpack (0 ∷ 2 ∷ 255 ∷ 127 ∷ 21 ∷ 0 ∷ 0 ∷ []) 17 gives leaves (answer 23 0 0) (fresh_from 0 17)
    -- another number
    ∷ to_unpack_check (0 ∷ 2 ∷ 255 ∷ 127 ∷ 21 ∷ 0 ∷ 0 ∷ []) gives number 1507328
    -- another number
    ∷ to_unpack (0 ∷ 2 ∷ 255 ∷ 127 ∷ []) 17 gives leaves (answer 23 0 0) (fresh_from 0 17)
    -- another number
    ∷ to_unpack_check (0 ∷ 2 ∷ 255 ∷ 127 ∷ []) gives number 1507328
    -- another number
    ∷ to_unpack (0 ∷ 2 ∷ 255 ∷ []) 17 gives leaves (answer 20 2 0) (fresh_from 0 17)
    -- another number
    ∷ to_unpack_check (0 ∷ 2 ∷ 255 ∷ []) gives number 1310722
    -- another number
    ∷ to_unpack (0 ∷ 2 ∷ 255 ∷ 255 ∷ 255 ∷ 255 ∷ 15 ∷ 21 ∷ 0 ∷ 0 ∷ []) 17 gives leaves (answer 23 0 0) (fresh_from 0 17)
    -- another number
    ∷ to_unpack_check (0 ∷ 2 ∷ 255 ∷ 255 ∷ 255 ∷ 255 ∷ 15 ∷ 21 ∷ 0 ∷ 0 ∷ []) gives number 1507328
    -- another number
    ∷ to_unpack (0 ∷ 2 ∷ 255 ∷ 255 ∷ 255 ∷ 255 ∷ 15 ∷ []) 17 gives leaves (answer 23 0 0) (fresh_from 0 17)
    -- another number
    ∷ to_unpack_check (0 ∷ 2 ∷ 255 ∷ 255 ∷ 255 ∷ 255 ∷ 15 ∷ []) gives number 1507328
    -- another number
    ∷ to_unpack (0 ∷ 2 ∷ 255 ∷ 255 ∷ 255 ∷ 255 ∷ []) 17 gives leaves (answer 20 2 0) (fresh_from 0 17)
    -- another number
    ∷ to_unpack_check (0 ∷ 2 ∷ 255 ∷ 255 ∷ 255 ∷ 255 ∷ []) gives number 1310722
    -- another number
    ∷ to_unpack (0 ∷ 2 ∷ 255 ∷ 255 ∷ 255 ∷ 255 ∷ 127 ∷ 21 ∷ 0 ∷ 0 ∷ []) 17 gives leaves (answer 23 0 0) (fresh_from 0 17)
    -- another number
    ∷ to_unpack_check (0 ∷ 2 ∷ 255 ∷ 255 ∷ 255 ∷ 255 ∷ 127 ∷ 21 ∷ 0 ∷ 0 ∷ []) gives number 1507328
    -- another number
    ∷ to_unpack (0 ∷ 2 ∷ 255 ∷ 255 ∷ 255 ∷ 255 ∷ 127 ∷ []) 17 gives leaves (answer 23 0 0) (fresh_from 0 17)
    -- another number
    ∷ to_unpack (0 ∷ 2 ∷ 1 ∷ 127 ∷ 0 ∷ 0 ∷ []) 17 gives leaves (answer 24 3 0) (fresh_from 0 17)
    -- another number
    ∷ to_unpack_check (0 ∷ 2 ∷ 1 ∷ 127 ∷ 0 ∷ 0 ∷ []) gives number 1572867
    -- another number
    ∷ to_unpack (0 ∷ 2 ∷ 1 ∷ 127 ∷ []) 17 gives leaves (answer 24 3 0) (fresh_from 0 17)
    -- another number
    ∷ to_unpack_check (0 ∷ 2 ∷ 1 ∷ 127 ∷ []) gives number 1572867
    -- another number
    ∷ to_unpack (0 ∷ 2 ∷ 1 ∷ 128 ∷ 1 ∷ 0 ∷ 0 ∷ []) 17 gives leaves (answer 24 3 0) (fresh_from 0 17)
    -- another number
    ∷ to_unpack_check (0 ∷ 2 ∷ 1 ∷ 128 ∷ 1 ∷ 0 ∷ 0 ∷ []) gives number 1572867
    -- another number
    ∷ to_unpack (0 ∷ 2 ∷ 1 ∷ 128 ∷ 1 ∷ []) 17 gives leaves (answer 24 3 0) (fresh_from 0 17)
    -- another number
    ∷ to_unpack_check (0 ∷ 2 ∷ 1 ∷ 128 ∷ 1 ∷ []) gives number 1572867
    -- another number
    ∷ to_unpack_check (0 ∷ 2 ∷ 1 ∷ 128 ∷ []) gives number 1310723
    -- another number
    ∷ to_unpack (0 ∷ 2 ∷ 1 ∷ 128 ∷ 0 ∷ 0 ∷ 0 ∷ []) 17 gives leaves (answer 21 3 0) (fresh_from 0 17)
    -- another number
    ∷ to_unpack_check (0 ∷ 2 ∷ 1 ∷ 128 ∷ 0 ∷ 0 ∷ 0 ∷ []) gives number 1376259
    -- another number
    ∷ to_unpack (0 ∷ 2 ∷ 1 ∷ 128 ∷ 0 ∷ []) 17 gives leaves (answer 21 3 0) (fresh_from 0 17)
    -- another number
    ∷ to_unpack_check (0 ∷ 2 ∷ 1 ∷ 128 ∷ 0 ∷ []) gives number 1376259
    -- another number
    ∷ to_unpack (0 ∷ 2 ∷ 1 ∷ 255 ∷ 127 ∷ 0 ∷ 0 ∷ []) 17 gives leaves (answer 24 3 0) (fresh_from 0 17)
    -- another number
    ∷ to_unpack_check (0 ∷ 2 ∷ 1 ∷ 255 ∷ 127 ∷ 0 ∷ 0 ∷ []) gives number 1572867
    ∷ []

pub table42_agrees : Agree table42
unfolding everything
table42_agrees = refl
