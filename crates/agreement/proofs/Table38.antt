-- Written by tests/model/tables.py: change that script or cases.py, never this file.
use mathlib.Core.Path.{refl}
use mathlib.Core.List.{List, [], ◌∷◌}
use Rattle.guarantees.proofs.Everything.{everything}
use Rattle.agreement.specs.Cases.{nodes, fresh_from, to_unpack, to_unpack_check, to_list, leaves, number, text, answer, Case, ◌gives◌, Agree}

abbrev pub table38 : List Case
table38 =
    -- edition
    to_unpack (0 ∷ 2 ∷ 2 ∷ 0 ∷ 4 ∷ 10 ∷ 23 ∷ 0 ∷ 0 ∷ 2 ∷ 6 ∷ []) 34 gives leaves (answer 0 0 2) (nodes ((0 ∷ 0 ∷ 0 ∷ 0 ∷ 4 ∷ 10 ∷ []) ∷ (46 ∷ 0 ∷ 0 ∷ 2 ∷ 0 ∷ 6 ∷ []) ∷ []))
    -- edition
    ∷ to_unpack (0 ∷ 2 ∷ 3 ∷ 0 ∷ 4 ∷ 10 ∷ 22 ∷ 0 ∷ 0 ∷ 4 ∷ 10 ∷ []) 51 gives leaves (answer 0 0 3) (nodes ((0 ∷ 0 ∷ 0 ∷ 0 ∷ 4 ∷ 10 ∷ []) ∷ (44 ∷ []) ∷ (0 ∷ 0 ∷ 0 ∷ 0 ∷ 4 ∷ 10 ∷ []) ∷ []))
    -- edition
    ∷ to_unpack_check (0 ∷ 2 ∷ 3 ∷ 0 ∷ 4 ∷ 10 ∷ 22 ∷ 0 ∷ 0 ∷ 4 ∷ 10 ∷ []) gives number 3
    -- edition
    ∷ to_unpack (0 ∷ 2 ∷ 1 ∷ 22 ∷ 0 ∷ []) 17 gives leaves (answer 0 0 1) (nodes ((44 ∷ []) ∷ []))
    -- edition
    ∷ to_unpack (0 ∷ 2 ∷ 1 ∷ 22 ∷ 0 ∷ []) 16 gives leaves (answer 14 0 0) (fresh_from 0 16)
    -- edition
    ∷ to_unpack (0 ∷ 0 ∷ []) 40 gives leaves (answer 23 0 0) (fresh_from 0 40)
    -- edition
    ∷ to_unpack_check (0 ∷ 0 ∷ []) gives number 1507328
    -- edition
    ∷ to_unpack (0 ∷ 1 ∷ []) 40 gives leaves (answer 23 0 0) (fresh_from 0 40)
    -- edition
    ∷ to_unpack (0 ∷ 3 ∷ []) 40 gives leaves (answer 23 0 0) (fresh_from 0 40)
    -- edition
    ∷ to_unpack (0 ∷ 255 ∷ []) 40 gives leaves (answer 23 0 0) (fresh_from 0 40)
    -- edition
    ∷ to_unpack_check (0 ∷ 255 ∷ []) gives number 1507328
    -- edition
    ∷ to_list (0 ∷ 255 ∷ []) gives text (114 ∷ 101 ∷ 102 ∷ 117 ∷ 115 ∷ 101 ∷ 100 ∷ 32 ∷ 50 ∷ 51 ∷ 32 ∷ 97 ∷ 116 ∷ 32 ∷ 48 ∷ 10 ∷ [])
    -- edition
    ∷ to_unpack (0 ∷ 3 ∷ []) 0 gives leaves (answer 23 0 0) []
    -- edition
    ∷ to_unpack (0 ∷ 130 ∷ 0 ∷ []) 0 gives leaves (answer 23 0 0) []
    -- edition
    ∷ to_unpack (0 ∷ 3 ∷ 1 ∷ 22 ∷ 0 ∷ []) 40 gives leaves (answer 23 0 0) (fresh_from 0 40)
    -- edition
    ∷ to_unpack (0 ∷ 1 ∷ 1 ∷ 22 ∷ 0 ∷ []) 40 gives leaves (answer 23 0 0) (fresh_from 0 40)
    -- edition
    ∷ to_unpack (0 ∷ 130 ∷ 0 ∷ 1 ∷ 22 ∷ 0 ∷ []) 40 gives leaves (answer 23 0 0) (fresh_from 0 40)
    -- edition
    ∷ to_unpack_check (0 ∷ 130 ∷ 0 ∷ 1 ∷ 22 ∷ 0 ∷ []) gives number 1507328
    -- edition
    ∷ to_unpack (0 ∷ 0 ∷ 2 ∷ 1 ∷ 22 ∷ 0 ∷ []) 40 gives leaves (answer 23 0 0) (fresh_from 0 40)
    -- edition
    ∷ to_unpack (0 ∷ 1 ∷ 4 ∷ 1 ∷ 22 ∷ 0 ∷ []) 40 gives leaves (answer 23 0 0) (fresh_from 0 40)
    -- edition
    ∷ to_unpack (0 ∷ 2 ∷ []) 0 gives leaves (answer 20 2 0) []
    -- edition
    ∷ to_unpack_check (0 ∷ 2 ∷ []) gives number 1310722
    -- edition
    ∷ to_list (0 ∷ 2 ∷ []) gives text (114 ∷ 101 ∷ 102 ∷ 117 ∷ 115 ∷ 101 ∷ 100 ∷ 32 ∷ 50 ∷ 48 ∷ 32 ∷ 97 ∷ 116 ∷ 32 ∷ 50 ∷ 10 ∷ [])
    -- edition
    ∷ to_unpack (0 ∷ 2 ∷ []) 40 gives leaves (answer 20 2 0) (fresh_from 0 40)
    -- edition
    ∷ to_unpack (0 ∷ 2 ∷ 128 ∷ []) 40 gives leaves (answer 20 2 0) (fresh_from 0 40)
    -- edition
    ∷ to_unpack (0 ∷ 2 ∷ 128 ∷ 0 ∷ []) 0 gives leaves (answer 21 2 0) []
    -- edition
    ∷ to_unpack_check (0 ∷ 2 ∷ 128 ∷ 0 ∷ []) gives number 1376258
    -- edition
    ∷ to_unpack (0 ∷ 2 ∷ 128 ∷ 128 ∷ 128 ∷ 128 ∷ 128 ∷ []) 40 gives leaves (answer 21 2 0) (fresh_from 0 40)
    -- edition
    ∷ to_unpack (0 ∷ 2 ∷ 0 ∷ []) 40 gives leaves (answer 23 0 0) (fresh_from 0 40)
    -- edition
    ∷ to_unpack (0 ∷ 2 ∷ 0 ∷ []) 0 gives leaves (answer 23 0 0) []
    -- edition
    ∷ to_unpack_check (0 ∷ 2 ∷ 0 ∷ []) gives number 1507328
    -- edition
    ∷ to_unpack (0 ∷ 2 ∷ 0 ∷ 2 ∷ 22 ∷ 0 ∷ []) 40 gives leaves (answer 23 0 0) (fresh_from 0 40)
    -- edition
    ∷ to_unpack (0 ∷ 2 ∷ 129 ∷ 2 ∷ []) 40 gives leaves (answer 23 0 0) (fresh_from 0 40)
    -- edition
    ∷ to_unpack (0 ∷ 2 ∷ 255 ∷ 255 ∷ 255 ∷ 255 ∷ 127 ∷ []) 40 gives leaves (answer 23 0 0) (fresh_from 0 40)
    -- edition
    ∷ to_unpack_check (0 ∷ 2 ∷ 255 ∷ 255 ∷ 255 ∷ 255 ∷ 127 ∷ []) gives number 1507328
    -- edition
    ∷ to_list (0 ∷ 2 ∷ 255 ∷ 255 ∷ 255 ∷ 255 ∷ 127 ∷ []) gives text (114 ∷ 101 ∷ 102 ∷ 117 ∷ 115 ∷ 101 ∷ 100 ∷ 32 ∷ 50 ∷ 51 ∷ 32 ∷ 97 ∷ 116 ∷ 32 ∷ 48 ∷ 10 ∷ [])
    -- edition
    ∷ to_unpack (0 ∷ 2 ∷ 128 ∷ 2 ∷ []) 4351 gives leaves (answer 14 0 0) (fresh_from 0 4351)
    -- edition
    ∷ to_unpack (0 ∷ 2 ∷ 128 ∷ 2 ∷ []) 4352 gives leaves (answer 20 4 0) (fresh_from 0 4352)
    -- edition
    ∷ to_unpack (0 ∷ 2 ∷ 1 ∷ []) 16 gives leaves (answer 14 0 0) (fresh_from 0 16)
    -- edition
    ∷ to_unpack_check (0 ∷ 2 ∷ 1 ∷ []) gives number 1310723
    -- edition
    ∷ to_unpack (0 ∷ 2 ∷ 1 ∷ []) 17 gives leaves (answer 20 3 0) (fresh_from 0 17)
    -- edition
    ∷ to_unpack (0 ∷ 2 ∷ 1 ∷ 128 ∷ []) 17 gives leaves (answer 20 3 0) (fresh_from 0 17)
    -- edition
    ∷ to_unpack (0 ∷ 2 ∷ 2 ∷ 22 ∷ 0 ∷ []) 34 gives leaves (answer 20 5 0) (fresh_from 0 34)
    -- edition
    ∷ to_unpack_check (0 ∷ 2 ∷ 2 ∷ 22 ∷ 0 ∷ []) gives number 1310725
    -- edition
    ∷ to_unpack (0 ∷ 2 ∷ 1 ∷ 24 ∷ []) 17 gives leaves (answer 24 3 0) (fresh_from 0 17)
    -- edition
    ∷ to_unpack (0 ∷ 2 ∷ 1 ∷ 25 ∷ []) 17 gives leaves (answer 24 3 0) (fresh_from 0 17)
    -- edition
    ∷ to_unpack (0 ∷ 2 ∷ 1 ∷ 23 ∷ []) 17 gives leaves (answer 20 4 0) (fresh_from 0 17)
    -- edition
    ∷ to_unpack_check (0 ∷ 2 ∷ 1 ∷ 23 ∷ []) gives number 1310724
    -- edition
    ∷ to_list (0 ∷ 2 ∷ 1 ∷ 23 ∷ []) gives text (114 ∷ 101 ∷ 102 ∷ 117 ∷ 115 ∷ 101 ∷ 100 ∷ 32 ∷ 50 ∷ 48 ∷ 32 ∷ 97 ∷ 116 ∷ 32 ∷ 52 ∷ 10 ∷ [])
    -- edition
    ∷ to_unpack (0 ∷ 2 ∷ 1 ∷ 24 ∷ []) 16 gives leaves (answer 14 0 0) (fresh_from 0 16)
    ∷ []

pub table38_agrees : Agree table38
unfolding everything
table38_agrees = refl
