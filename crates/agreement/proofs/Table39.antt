-- Written by tests/model/tables.py: change that script or cases.py, never this file.
use mathlib.Core.Path.{refl}
use mathlib.Core.List.{List, [], ◌∷◌}
use Rattle.guarantees.proofs.Everything.{everything}
use Rattle.agreement.specs.Cases.{fresh_from, to_unpack, to_unpack_check, to_list, leaves, number, text, answer, Case, ◌gives◌, Agree}

abbrev pub table39 : List Case
table39 =
    -- edition
    to_unpack (0 ∷ 2 ∷ 1 ∷ 152 ∷ 0 ∷ []) 17 gives leaves (answer 21 3 0) (fresh_from 0 17)
    -- edition
    ∷ to_unpack (0 ∷ 2 ∷ 1 ∷ 152 ∷ []) 17 gives leaves (answer 20 3 0) (fresh_from 0 17)
    -- edition
    ∷ to_unpack_check (0 ∷ 2 ∷ 1 ∷ 152 ∷ []) gives number 1310723
    -- edition
    ∷ to_unpack (0 ∷ 2 ∷ 2 ∷ 0 ∷ 4 ∷ 10 ∷ 24 ∷ []) 34 gives leaves (answer 24 6 0) (fresh_from 0 34)
    -- edition
    ∷ to_unpack (0 ∷ 2 ∷ 2 ∷ 22 ∷ 0 ∷ 24 ∷ []) 34 gives leaves (answer 24 5 0) (fresh_from 0 34)
    -- edition
    ∷ to_unpack (0 ∷ 2 ∷ 1 ∷ 149 ∷ 1 ∷ []) 17 gives leaves (answer 24 3 0) (fresh_from 0 17)
    -- edition
    ∷ to_unpack_check (0 ∷ 2 ∷ 1 ∷ 149 ∷ 1 ∷ []) gives number 1572867
    -- edition
    ∷ to_unpack (0 ∷ 2 ∷ 1 ∷ 152 ∷ 1 ∷ 0 ∷ []) 17 gives leaves (answer 24 3 0) (fresh_from 0 17)
    -- edition
    ∷ to_unpack (1 ∷ 21 ∷ 0 ∷ 0 ∷ []) 17 gives leaves (answer 24 1 0) (fresh_from 0 17)
    -- edition
    ∷ to_unpack (1 ∷ 22 ∷ 0 ∷ []) 17 gives leaves (answer 24 1 0) (fresh_from 0 17)
    -- edition
    ∷ to_unpack_check (1 ∷ 22 ∷ 0 ∷ []) gives number 1572865
    -- edition
    ∷ to_list (1 ∷ 22 ∷ 0 ∷ []) gives text (114 ∷ 101 ∷ 102 ∷ 117 ∷ 115 ∷ 101 ∷ 100 ∷ 32 ∷ 50 ∷ 52 ∷ 32 ∷ 97 ∷ 116 ∷ 32 ∷ 49 ∷ 10 ∷ [])
    -- edition
    ∷ to_unpack (1 ∷ 23 ∷ 0 ∷ 0 ∷ 0 ∷ 4 ∷ []) 17 gives leaves (answer 24 1 0) (fresh_from 0 17)
    -- edition
    ∷ to_unpack (2 ∷ 0 ∷ 4 ∷ 10 ∷ 22 ∷ 0 ∷ []) 34 gives leaves (answer 24 4 0) (fresh_from 0 34)
    -- edition
    ∷ to_unpack (2 ∷ 0 ∷ 4 ∷ 10 ∷ 21 ∷ 0 ∷ []) 34 gives leaves (answer 24 4 0) (fresh_from 0 34)
    -- edition
    ∷ to_unpack_check (2 ∷ 0 ∷ 4 ∷ 10 ∷ 21 ∷ 0 ∷ []) gives number 1572868
    -- edition
    ∷ to_unpack (1 ∷ 22 ∷ 0 ∷ []) 16 gives leaves (answer 14 0 0) (fresh_from 0 16)
    -- edition
    ∷ to_unpack (1 ∷ 150 ∷ 0 ∷ []) 17 gives leaves (answer 21 1 0) (fresh_from 0 17)
    -- edition
    ∷ to_unpack (1 ∷ 22 ∷ 128 ∷ []) 17 gives leaves (answer 24 1 0) (fresh_from 0 17)
    -- edition
    ∷ to_unpack_check (1 ∷ 22 ∷ 128 ∷ []) gives number 1572865
    -- edition
    ∷ to_unpack (1 ∷ 0 ∷ 4 ∷ 10 ∷ 22 ∷ 0 ∷ []) 17 gives leaves (answer 22 4 0) (fresh_from 0 17)
    -- edition
    ∷ to_unpack (0 ∷ 2 ∷ 1 ∷ 0 ∷ 4 ∷ 10 ∷ []) 17 gives leaves (answer 26 0 0) (fresh_from 0 17)
    -- edition
    ∷ to_unpack (0 ∷ 2 ∷ 1 ∷ 20 ∷ 0 ∷ 2 ∷ []) 17 gives leaves (answer 26 0 0) (fresh_from 0 17)
    -- edition
    ∷ to_unpack_check (0 ∷ 2 ∷ 1 ∷ 20 ∷ 0 ∷ 2 ∷ []) gives number 1703936
    -- edition
    ∷ to_list (0 ∷ 2 ∷ 1 ∷ 20 ∷ 0 ∷ 2 ∷ []) gives text (114 ∷ 101 ∷ 102 ∷ 117 ∷ 115 ∷ 101 ∷ 100 ∷ 32 ∷ 50 ∷ 54 ∷ 32 ∷ 97 ∷ 116 ∷ 32 ∷ 48 ∷ 10 ∷ [])
    -- edition
    ∷ to_unpack (0 ∷ 2 ∷ 2 ∷ 0 ∷ 4 ∷ 10 ∷ 20 ∷ 0 ∷ 42 ∷ []) 34 gives leaves (answer 26 0 0) (fresh_from 0 34)
    -- edition
    ∷ to_unpack (0 ∷ 2 ∷ 1 ∷ 0 ∷ 4 ∷ 10 ∷ []) 16 gives leaves (answer 14 0 0) (fresh_from 0 16)
    -- edition
    ∷ to_unpack (0 ∷ 2 ∷ 1 ∷ 0 ∷ 4 ∷ 10 ∷ 0 ∷ []) 17 gives leaves (answer 22 6 0) (fresh_from 0 17)
    -- edition
    ∷ to_unpack_check (0 ∷ 2 ∷ 1 ∷ 0 ∷ 4 ∷ 10 ∷ 0 ∷ []) gives number 1441798
    -- edition
    ∷ to_unpack (0 ∷ 2 ∷ 1 ∷ 0 ∷ 4 ∷ 10 ∷ 22 ∷ 0 ∷ []) 17 gives leaves (answer 22 6 0) (fresh_from 0 17)
    -- edition
    ∷ to_unpack (0 ∷ 2 ∷ 1 ∷ 0 ∷ 4 ∷ 10 ∷ []) 40 gives leaves (answer 26 0 0) (fresh_from 0 40)
    -- edition
    ∷ to_unpack (0 ∷ 2 ∷ 1 ∷ 0 ∷ 4 ∷ []) 17 gives leaves (answer 20 5 0) (fresh_from 0 17)
    -- edition
    ∷ to_unpack_check (0 ∷ 2 ∷ 1 ∷ 0 ∷ 4 ∷ []) gives number 1310725
    -- edition
    ∷ to_unpack (0 ∷ 2 ∷ 1 ∷ 0 ∷ 132 ∷ 0 ∷ 0 ∷ []) 17 gives leaves (answer 21 4 0) (fresh_from 0 17)
    -- edition
    ∷ to_unpack (0 ∷ 2 ∷ 2 ∷ 0 ∷ 4 ∷ 10 ∷ []) 34 gives leaves (answer 20 6 0) (fresh_from 0 34)
    -- edition
    ∷ to_unpack (0 ∷ 2 ∷ 1 ∷ 22 ∷ 0 ∷ 0 ∷ []) 17 gives leaves (answer 22 5 0) (fresh_from 0 17)
    -- edition
    ∷ to_unpack_check (0 ∷ 2 ∷ 1 ∷ 22 ∷ 0 ∷ 0 ∷ []) gives number 1441797
    -- edition
    ∷ to_list (0 ∷ 2 ∷ 1 ∷ 22 ∷ 0 ∷ 0 ∷ []) gives text (114 ∷ 101 ∷ 102 ∷ 117 ∷ 115 ∷ 101 ∷ 100 ∷ 32 ∷ 50 ∷ 50 ∷ 32 ∷ 97 ∷ 116 ∷ 32 ∷ 53 ∷ 10 ∷ [])
    -- edition
    ∷ to_unpack (0 ∷ 2 ∷ 1 ∷ 22 ∷ 0 ∷ 22 ∷ []) 17 gives leaves (answer 22 5 0) (fresh_from 0 17)
    -- edition
    ∷ to_unpack (0 ∷ 2 ∷ 1 ∷ 22 ∷ 128 ∷ []) 17 gives leaves (answer 20 4 0) (fresh_from 0 17)
    -- edition
    ∷ to_unpack (0 ∷ 2 ∷ 1 ∷ 22 ∷ 128 ∷ 0 ∷ []) 17 gives leaves (answer 21 4 0) (fresh_from 0 17)
    -- edition
    ∷ to_unpack_check (0 ∷ 2 ∷ 1 ∷ 22 ∷ 128 ∷ 0 ∷ []) gives number 1376260
    -- another number
    ∷ to_unpack (127 ∷ 0 ∷ 4 ∷ 10 ∷ []) 17 gives leaves (answer 14 0 0) (fresh_from 0 17)
    -- another number
    ∷ to_unpack_check (127 ∷ 0 ∷ 4 ∷ 10 ∷ []) gives number 1310724
    -- another number
    ∷ to_unpack (127 ∷ []) 17 gives leaves (answer 14 0 0) (fresh_from 0 17)
    -- another number
    ∷ to_unpack_check (127 ∷ []) gives number 1310721
    -- another number
    ∷ to_unpack [] 17 gives leaves (answer 20 0 0) (fresh_from 0 17)
    -- another number
    ∷ to_unpack_check [] gives number 1310720
    -- another number
    ∷ to_unpack (128 ∷ 1 ∷ 0 ∷ 4 ∷ 10 ∷ []) 17 gives leaves (answer 14 0 0) (fresh_from 0 17)
    -- another number
    ∷ to_unpack_check (128 ∷ 1 ∷ 0 ∷ 4 ∷ 10 ∷ []) gives number 1310725
    ∷ []

pub table39_agrees : Agree table39
unfolding everything
table39_agrees = refl
