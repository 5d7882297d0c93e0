-- Written by tests/model/tables.py: change that script or cases.py, never this file.
use mathlib.Core.Path.{refl}
use mathlib.Core.List.{List, [], ◌∷◌}
use Rattle.guarantees.proofs.Everything.{everything}
use Rattle.agreement.specs.Cases.{fresh_from, to_unpack, to_unpack_check, leaves, number, answer, Case, ◌gives◌, Agree}

abbrev pub table40 : List Case
table40 =
    -- another number
    to_unpack (128 ∷ 1 ∷ []) 17 gives leaves (answer 14 0 0) (fresh_from 0 17)
    -- another number
    ∷ to_unpack_check (128 ∷ 1 ∷ []) gives number 1310722
    -- another number
    ∷ to_unpack (128 ∷ []) 17 gives leaves (answer 20 0 0) (fresh_from 0 17)
    -- another number
    ∷ to_unpack_check (128 ∷ []) gives number 1310720
    -- another number
    ∷ to_unpack (128 ∷ 0 ∷ 0 ∷ 4 ∷ 10 ∷ []) 17 gives leaves (answer 21 0 0) (fresh_from 0 17)
    -- another number
    ∷ to_unpack_check (128 ∷ 0 ∷ 0 ∷ 4 ∷ 10 ∷ []) gives number 1376256
    -- another number
    ∷ to_unpack (128 ∷ 0 ∷ []) 17 gives leaves (answer 21 0 0) (fresh_from 0 17)
    -- another number
    ∷ to_unpack (255 ∷ 127 ∷ 0 ∷ 4 ∷ 10 ∷ []) 17 gives leaves (answer 23 0 0) (fresh_from 0 17)
    -- another number
    ∷ to_unpack_check (255 ∷ 127 ∷ 0 ∷ 4 ∷ 10 ∷ []) gives number 1507328
    -- another number
    ∷ to_unpack (255 ∷ 127 ∷ []) 17 gives leaves (answer 23 0 0) (fresh_from 0 17)
    -- another number
    ∷ to_unpack_check (255 ∷ 127 ∷ []) gives number 1507328
    -- another number
    ∷ to_unpack (255 ∷ []) 17 gives leaves (answer 20 0 0) (fresh_from 0 17)
    -- another number
    ∷ to_unpack_check (255 ∷ []) gives number 1310720
    -- another number
    ∷ to_unpack (255 ∷ 255 ∷ 255 ∷ 255 ∷ 15 ∷ 0 ∷ 4 ∷ 10 ∷ []) 17 gives leaves (answer 23 0 0) (fresh_from 0 17)
    -- another number
    ∷ to_unpack_check (255 ∷ 255 ∷ 255 ∷ 255 ∷ 15 ∷ 0 ∷ 4 ∷ 10 ∷ []) gives number 1507328
    -- another number
    ∷ to_unpack (255 ∷ 255 ∷ 255 ∷ 255 ∷ 15 ∷ []) 17 gives leaves (answer 23 0 0) (fresh_from 0 17)
    -- another number
    ∷ to_unpack_check (255 ∷ 255 ∷ 255 ∷ 255 ∷ 15 ∷ []) gives number 1507328
    -- another number
    ∷ to_unpack (255 ∷ 255 ∷ 255 ∷ 255 ∷ []) 17 gives leaves (answer 20 0 0) (fresh_from 0 17)
    -- another number
    ∷ to_unpack_check (255 ∷ 255 ∷ 255 ∷ 255 ∷ []) gives number 1310720
    -- another number
    ∷ to_unpack (255 ∷ 255 ∷ 255 ∷ 255 ∷ 127 ∷ 0 ∷ 4 ∷ 10 ∷ []) 17 gives leaves (answer 23 0 0) (fresh_from 0 17)
    -- another number
    ∷ to_unpack_check (255 ∷ 255 ∷ 255 ∷ 255 ∷ 127 ∷ 0 ∷ 4 ∷ 10 ∷ []) gives number 1507328
    -- another number
    ∷ to_unpack (255 ∷ 255 ∷ 255 ∷ 255 ∷ 127 ∷ []) 17 gives leaves (answer 23 0 0) (fresh_from 0 17)
    -- another number
    ∷ to_unpack (1 ∷ 127 ∷ 4 ∷ 10 ∷ []) 17 gives leaves (answer 24 1 0) (fresh_from 0 17)
    -- another number
    ∷ to_unpack_check (1 ∷ 127 ∷ 4 ∷ 10 ∷ []) gives number 1572865
    -- another number
    ∷ to_unpack (1 ∷ 127 ∷ []) 17 gives leaves (answer 24 1 0) (fresh_from 0 17)
    -- another number
    ∷ to_unpack_check (1 ∷ 127 ∷ []) gives number 1572865
    -- another number
    ∷ to_unpack (1 ∷ []) 17 gives leaves (answer 20 1 0) (fresh_from 0 17)
    -- another number
    ∷ to_unpack_check (1 ∷ []) gives number 1310721
    -- another number
    ∷ to_unpack (1 ∷ 128 ∷ 1 ∷ 4 ∷ 10 ∷ []) 17 gives leaves (answer 24 1 0) (fresh_from 0 17)
    -- another number
    ∷ to_unpack_check (1 ∷ 128 ∷ 1 ∷ 4 ∷ 10 ∷ []) gives number 1572865
    -- another number
    ∷ to_unpack (1 ∷ 128 ∷ 1 ∷ []) 17 gives leaves (answer 24 1 0) (fresh_from 0 17)
    -- another number
    ∷ to_unpack_check (1 ∷ 128 ∷ 1 ∷ []) gives number 1572865
    -- another number
    ∷ to_unpack (1 ∷ 128 ∷ []) 17 gives leaves (answer 20 1 0) (fresh_from 0 17)
    -- another number
    ∷ to_unpack_check (1 ∷ 128 ∷ []) gives number 1310721
    -- another number
    ∷ to_unpack (1 ∷ 128 ∷ 0 ∷ 4 ∷ 10 ∷ []) 17 gives leaves (answer 21 1 0) (fresh_from 0 17)
    -- another number
    ∷ to_unpack_check (1 ∷ 128 ∷ 0 ∷ 4 ∷ 10 ∷ []) gives number 1376257
    -- another number
    ∷ to_unpack (1 ∷ 128 ∷ 0 ∷ []) 17 gives leaves (answer 21 1 0) (fresh_from 0 17)
    -- another number
    ∷ to_unpack_check (1 ∷ 128 ∷ 0 ∷ []) gives number 1376257
    -- another number
    ∷ to_unpack (1 ∷ 255 ∷ 127 ∷ 4 ∷ 10 ∷ []) 17 gives leaves (answer 24 1 0) (fresh_from 0 17)
    -- another number
    ∷ to_unpack_check (1 ∷ 255 ∷ 127 ∷ 4 ∷ 10 ∷ []) gives number 1572865
    -- another number
    ∷ to_unpack (1 ∷ 255 ∷ 127 ∷ []) 17 gives leaves (answer 24 1 0) (fresh_from 0 17)
    -- another number
    ∷ to_unpack_check (1 ∷ 255 ∷ 127 ∷ []) gives number 1572865
    -- another number
    ∷ to_unpack (1 ∷ 255 ∷ []) 17 gives leaves (answer 20 1 0) (fresh_from 0 17)
    -- another number
    ∷ to_unpack_check (1 ∷ 255 ∷ []) gives number 1310721
    -- another number
    ∷ to_unpack (1 ∷ 255 ∷ 255 ∷ 255 ∷ 255 ∷ 15 ∷ 4 ∷ 10 ∷ []) 17 gives leaves (answer 24 1 0) (fresh_from 0 17)
    -- another number
    ∷ to_unpack_check (1 ∷ 255 ∷ 255 ∷ 255 ∷ 255 ∷ 15 ∷ 4 ∷ 10 ∷ []) gives number 1572865
    -- another number
    ∷ to_unpack (1 ∷ 255 ∷ 255 ∷ 255 ∷ 255 ∷ 15 ∷ []) 17 gives leaves (answer 24 1 0) (fresh_from 0 17)
    -- another number
    ∷ to_unpack_check (1 ∷ 255 ∷ 255 ∷ 255 ∷ 255 ∷ 15 ∷ []) gives number 1572865
    -- another number
    ∷ to_unpack (1 ∷ 255 ∷ 255 ∷ 255 ∷ 255 ∷ []) 17 gives leaves (answer 20 1 0) (fresh_from 0 17)
    -- another number
    ∷ to_unpack_check (1 ∷ 255 ∷ 255 ∷ 255 ∷ 255 ∷ []) gives number 1310721
    ∷ []

pub table40_agrees : Agree table40
unfolding everything
table40_agrees = refl
