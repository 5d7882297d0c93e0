-- Written by tests/model/tables.py: change that script or cases.py, never this file.
use mathlib.Core.Path.{refl}
use mathlib.Core.List.{List, [], ◌∷◌}
use Rattle.guarantees.proofs.Everything.{everything}
use Rattle.agreement.specs.Cases.{words, nodes, fresh_from, to_check, leaves, answer, Case, ◌gives◌, Agree}

abbrev pub table31 : List Case
table31 =
    -- check by hand
    to_check (nodes ((2 ∷ 0 ∷ 0 ∷ 0 ∷ 6 ∷ 0 ∷ 2 ∷ 2 ∷ 2 ∷ 4 ∷ 6 ∷ []) ∷ (14 ∷ 0 ∷ 0 ∷ 0 ∷ 0 ∷ 0 ∷ 0 ∷ 0 ∷ 0 ∷ 2 ∷ 4 ∷ 0 ∷ 0 ∷ 2097154 ∷ 2 ∷ []) ∷ [])) 16 gives leaves (answer 7 1 0) (fresh_from 0 16)
    -- check by hand
    ∷ to_check (nodes ((2 ∷ 0 ∷ 0 ∷ 0 ∷ 6 ∷ 0 ∷ 2 ∷ 0 ∷ 2 ∷ 2 ∷ []) ∷ (2 ∷ 0 ∷ 0 ∷ 0 ∷ 6 ∷ 0 ∷ 2 ∷ 0 ∷ 2 ∷ 2 ∷ []) ∷ [])) 16 gives leaves (answer 7 1 0) (fresh_from 0 16)
    -- check by hand
    ∷ to_check (nodes ((2 ∷ 0 ∷ 0 ∷ 0 ∷ 0 ∷ 0 ∷ 2 ∷ 2 ∷ 2 ∷ 2 ∷ 6 ∷ []) ∷ (2 ∷ 0 ∷ 0 ∷ 0 ∷ 6 ∷ 2 ∷ 2 ∷ 2 ∷ 2 ∷ 4 ∷ 6 ∷ []) ∷ (2 ∷ 0 ∷ 0 ∷ 0 ∷ 6 ∷ 4 ∷ 2 ∷ 2 ∷ 2 ∷ 6 ∷ 6 ∷ []) ∷ (36 ∷ 0 ∷ 2 ∷ 4 ∷ []) ∷ [])) 32 gives leaves (answer 8 3 0) (fresh_from 0 32)
    -- check by hand
    ∷ to_check (nodes ((2 ∷ 0 ∷ 0 ∷ 0 ∷ 0 ∷ 0 ∷ 2 ∷ 2 ∷ 2 ∷ 2 ∷ 2 ∷ []) ∷ (2 ∷ 0 ∷ 0 ∷ 0 ∷ 6 ∷ 2 ∷ 2 ∷ 2 ∷ 2 ∷ 4 ∷ 2 ∷ []) ∷ (2 ∷ 0 ∷ 0 ∷ 0 ∷ 6 ∷ 4 ∷ 2 ∷ 2 ∷ 2 ∷ 6 ∷ 2 ∷ []) ∷ (36 ∷ 0 ∷ 2 ∷ 4 ∷ []) ∷ [])) 32 gives leaves (answer 8 3 0) (fresh_from 0 32)
    -- check by hand
    ∷ to_check (nodes ((2 ∷ 0 ∷ 0 ∷ 0 ∷ 0 ∷ 0 ∷ 2 ∷ 2 ∷ 2 ∷ 4 ∷ 2 ∷ 2 ∷ []) ∷ (2 ∷ 0 ∷ 0 ∷ 0 ∷ 6 ∷ 2 ∷ 2 ∷ 2 ∷ 2 ∷ 6 ∷ 2 ∷ []) ∷ (2 ∷ 0 ∷ 0 ∷ 0 ∷ 6 ∷ 4 ∷ 2 ∷ 2 ∷ 2 ∷ 8 ∷ []) ∷ (36 ∷ 0 ∷ 2 ∷ 4 ∷ []) ∷ [])) 32 gives leaves (answer 0 0 0) (words (0 ∷ 2 ∷ 2 ∷ 2 ∷ 4 ∷ 2 ∷ 2 ∷ 0 ∷ 6 ∷ 2 ∷ 2 ∷ 2 ∷ 6 ∷ 2 ∷ 0 ∷ 0 ∷ 6 ∷ 2 ∷ 2 ∷ 2 ∷ 8 ∷ 0 ∷ 0 ∷ 0 ∷ 6 ∷ 2 ∷ 2 ∷ 2 ∷ 4 ∷ 6 ∷ 8 ∷ 0 ∷ []))
    -- check by hand
    ∷ to_check (nodes ((2 ∷ 0 ∷ 0 ∷ 0 ∷ 0 ∷ 0 ∷ 2 ∷ 2 ∷ 2 ∷ 4 ∷ 6 ∷ []) ∷ (2 ∷ 0 ∷ 0 ∷ 0 ∷ 6 ∷ 2 ∷ 2 ∷ 2 ∷ 2 ∷ 2 ∷ []) ∷ (2 ∷ 0 ∷ 0 ∷ 0 ∷ 6 ∷ 4 ∷ 2 ∷ 2 ∷ 2 ∷ 6 ∷ 6 ∷ []) ∷ (36 ∷ 0 ∷ 2 ∷ 4 ∷ []) ∷ [])) 32 gives leaves (answer 8 3 0) (fresh_from 0 32)
    -- check by hand
    ∷ to_check (nodes ((0 ∷ 0 ∷ 0 ∷ 0 ∷ 4 ∷ 2 ∷ []) ∷ (2 ∷ 2 ∷ 0 ∷ 0 ∷ 0 ∷ 0 ∷ 18 ∷ []) ∷ [])) 16 gives leaves (answer 3 1 0) (fresh_from 0 16)
    -- check by hand
    ∷ to_check (nodes ((0 ∷ 0 ∷ 0 ∷ 0 ∷ 4 ∷ 2 ∷ []) ∷ (40 ∷ 0 ∷ 2 ∷ 0 ∷ 0 ∷ 0 ∷ 18 ∷ []) ∷ [])) 16 gives leaves (answer 3 1 0) (fresh_from 0 16)
    -- check by hand
    ∷ to_check (nodes ((0 ∷ 0 ∷ 0 ∷ 0 ∷ 4 ∷ 2 ∷ []) ∷ (30 ∷ 0 ∷ 0 ∷ 2 ∷ []) ∷ [])) 16 gives leaves (answer 3 1 0) (fresh_from 0 16)
    -- check by hand
    ∷ to_check (nodes ((0 ∷ 0 ∷ 0 ∷ 0 ∷ 4 ∷ 2 ∷ []) ∷ (46 ∷ 0 ∷ 0 ∷ 0 ∷ 2 ∷ 4 ∷ []) ∷ [])) 16 gives leaves (answer 3 1 0) (fresh_from 0 16)
    -- check by hand
    ∷ to_check (nodes ((0 ∷ 0 ∷ 0 ∷ 0 ∷ 4 ∷ 2 ∷ []) ∷ (14 ∷ 0 ∷ 0 ∷ 0 ∷ 0 ∷ 2 ∷ []) ∷ [])) 16 gives leaves (answer 3 1 0) (fresh_from 0 16)
    -- check by hand
    ∷ to_check (nodes ((0 ∷ 0 ∷ 0 ∷ 0 ∷ 4 ∷ 2 ∷ []) ∷ (0 ∷ 0 ∷ 0 ∷ 0 ∷ 0 ∷ 0 ∷ 2 ∷ []) ∷ [])) 16 gives leaves (answer 3 1 0) (fresh_from 0 16)
    -- check by hand
    ∷ to_check (nodes ((0 ∷ 0 ∷ 0 ∷ 0 ∷ 4 ∷ 2 ∷ []) ∷ (4 ∷ 0 ∷ 0 ∷ 0 ∷ 0 ∷ 0 ∷ 2 ∷ []) ∷ [])) 16 gives leaves (answer 3 1 0) (fresh_from 0 16)
    -- check by hand
    ∷ to_check (nodes ((0 ∷ 0 ∷ 0 ∷ 0 ∷ 4 ∷ 2 ∷ []) ∷ (6 ∷ 0 ∷ 0 ∷ 0 ∷ 0 ∷ 0 ∷ 2 ∷ []) ∷ [])) 16 gives leaves (answer 3 1 0) (fresh_from 0 16)
    -- check by hand
    ∷ to_check (nodes ((0 ∷ 0 ∷ 0 ∷ 0 ∷ 4 ∷ 2 ∷ []) ∷ (8 ∷ 0 ∷ 0 ∷ 0 ∷ 0 ∷ 0 ∷ 2 ∷ []) ∷ [])) 16 gives leaves (answer 3 1 0) (fresh_from 0 16)
    -- check by hand
    ∷ to_check (nodes ((0 ∷ 0 ∷ 0 ∷ 0 ∷ 4 ∷ 2 ∷ []) ∷ (10 ∷ 0 ∷ 0 ∷ 0 ∷ 0 ∷ 0 ∷ 2 ∷ []) ∷ [])) 16 gives leaves (answer 3 1 0) (fresh_from 0 16)
    -- check by hand
    ∷ to_check (nodes ((0 ∷ 0 ∷ 0 ∷ 0 ∷ 4 ∷ 2 ∷ []) ∷ (12 ∷ 0 ∷ 0 ∷ 0 ∷ 0 ∷ 0 ∷ 2 ∷ []) ∷ [])) 16 gives leaves (answer 3 1 0) (fresh_from 0 16)
    -- check by hand
    ∷ to_check (nodes ((0 ∷ 0 ∷ 0 ∷ 0 ∷ 4 ∷ 2 ∷ []) ∷ (14 ∷ 0 ∷ 0 ∷ 0 ∷ 0 ∷ 0 ∷ 2 ∷ []) ∷ [])) 16 gives leaves (answer 3 1 0) (fresh_from 0 16)
    -- check by hand
    ∷ to_check (nodes ((0 ∷ 0 ∷ 0 ∷ 0 ∷ 4 ∷ 2 ∷ []) ∷ (16 ∷ 0 ∷ 0 ∷ 0 ∷ 0 ∷ 0 ∷ 2 ∷ []) ∷ [])) 16 gives leaves (answer 3 1 0) (fresh_from 0 16)
    -- check by hand
    ∷ to_check (nodes ((0 ∷ 0 ∷ 0 ∷ 0 ∷ 4 ∷ 2 ∷ []) ∷ (18 ∷ 0 ∷ 0 ∷ 0 ∷ 0 ∷ 0 ∷ 2 ∷ []) ∷ [])) 16 gives leaves (answer 3 1 0) (fresh_from 0 16)
    -- check by hand
    ∷ to_check (nodes ((0 ∷ 0 ∷ 0 ∷ 0 ∷ 4 ∷ 2 ∷ []) ∷ (20 ∷ 0 ∷ 0 ∷ 0 ∷ 0 ∷ 0 ∷ 2 ∷ []) ∷ [])) 16 gives leaves (answer 3 1 0) (fresh_from 0 16)
    -- check by hand
    ∷ to_check (nodes ((0 ∷ 0 ∷ 0 ∷ 0 ∷ 4 ∷ 2 ∷ []) ∷ (22 ∷ 0 ∷ 0 ∷ 0 ∷ 0 ∷ 0 ∷ 2 ∷ []) ∷ [])) 16 gives leaves (answer 3 1 0) (fresh_from 0 16)
    -- check by hand
    ∷ to_check (nodes ((0 ∷ 0 ∷ 0 ∷ 0 ∷ 4 ∷ 2 ∷ []) ∷ (24 ∷ 0 ∷ 0 ∷ 0 ∷ 0 ∷ 0 ∷ 2 ∷ []) ∷ [])) 16 gives leaves (answer 3 1 0) (fresh_from 0 16)
    -- check by hand
    ∷ to_check (nodes ((0 ∷ 0 ∷ 0 ∷ 0 ∷ 4 ∷ 2 ∷ []) ∷ (26 ∷ 0 ∷ 0 ∷ 0 ∷ 0 ∷ 0 ∷ 2 ∷ []) ∷ [])) 16 gives leaves (answer 3 1 0) (fresh_from 0 16)
    -- check by hand
    ∷ to_check (nodes ((0 ∷ 0 ∷ 0 ∷ 0 ∷ 4 ∷ 2 ∷ []) ∷ (28 ∷ 0 ∷ 0 ∷ 0 ∷ 0 ∷ 0 ∷ 2 ∷ []) ∷ [])) 16 gives leaves (answer 3 1 0) (fresh_from 0 16)
    -- check by hand
    ∷ to_check (nodes ((0 ∷ 0 ∷ 0 ∷ 0 ∷ 4 ∷ 2 ∷ []) ∷ (30 ∷ 0 ∷ 0 ∷ 0 ∷ 0 ∷ 0 ∷ 2 ∷ []) ∷ [])) 16 gives leaves (answer 3 1 0) (fresh_from 0 16)
    -- check by hand
    ∷ to_check (nodes ((0 ∷ 0 ∷ 0 ∷ 0 ∷ 0 ∷ 2 ∷ []) ∷ (32 ∷ 0 ∷ 0 ∷ 0 ∷ 0 ∷ 0 ∷ 2 ∷ []) ∷ [])) 16 gives leaves (answer 3 1 0) (fresh_from 0 16)
    -- check by hand
    ∷ to_check (nodes ((0 ∷ 0 ∷ 0 ∷ 0 ∷ 0 ∷ 2 ∷ []) ∷ (34 ∷ 0 ∷ 0 ∷ 0 ∷ 0 ∷ 0 ∷ 2 ∷ []) ∷ [])) 16 gives leaves (answer 3 1 0) (fresh_from 0 16)
    -- check by hand
    ∷ to_check (nodes ((0 ∷ 0 ∷ 0 ∷ 0 ∷ 0 ∷ 2 ∷ []) ∷ (36 ∷ 0 ∷ 0 ∷ 0 ∷ 0 ∷ 0 ∷ 2 ∷ []) ∷ [])) 16 gives leaves (answer 3 1 0) (fresh_from 0 16)
    -- check by hand
    ∷ to_check (nodes ((0 ∷ 0 ∷ 0 ∷ 0 ∷ 4 ∷ 2 ∷ []) ∷ (38 ∷ 0 ∷ 0 ∷ 0 ∷ 0 ∷ 0 ∷ 2 ∷ []) ∷ [])) 16 gives leaves (answer 3 1 0) (fresh_from 0 16)
    -- check by hand
    ∷ to_check (nodes ((0 ∷ 0 ∷ 0 ∷ 0 ∷ 4 ∷ 2 ∷ []) ∷ (42 ∷ 0 ∷ 0 ∷ 0 ∷ 0 ∷ 0 ∷ 2 ∷ []) ∷ [])) 16 gives leaves (answer 3 1 0) (fresh_from 0 16)
    -- check by hand
    ∷ to_check (nodes ((0 ∷ 0 ∷ 0 ∷ 0 ∷ 4 ∷ 2 ∷ []) ∷ (44 ∷ 0 ∷ 0 ∷ 0 ∷ 0 ∷ 0 ∷ 2 ∷ []) ∷ [])) 16 gives leaves (answer 3 1 0) (fresh_from 0 16)
    -- check by hand
    ∷ to_check (nodes ((0 ∷ 0 ∷ 0 ∷ 0 ∷ 4 ∷ 2 ∷ []) ∷ (46 ∷ 0 ∷ 0 ∷ 0 ∷ 0 ∷ 4 ∷ 2 ∷ []) ∷ [])) 16 gives leaves (answer 3 1 0) (fresh_from 0 16)
    -- check by hand
    ∷ to_check (nodes ((0 ∷ 0 ∷ 0 ∷ 0 ∷ 4 ∷ 2 ∷ []) ∷ (26 ∷ 0 ∷ 0 ∷ 0 ∷ 0 ∷ 0 ∷ 0 ∷ 2 ∷ []) ∷ [])) 16 gives leaves (answer 3 1 0) (fresh_from 0 16)
    -- check by hand
    ∷ to_check (nodes ((0 ∷ 0 ∷ 0 ∷ 0 ∷ 0 ∷ 2 ∷ []) ∷ (36 ∷ 0 ∷ 0 ∷ 0 ∷ 0 ∷ 0 ∷ 0 ∷ 0 ∷ 2 ∷ []) ∷ [])) 16 gives leaves (answer 3 1 0) (fresh_from 0 16)
    -- check by hand
    ∷ to_check (nodes ((0 ∷ 0 ∷ 0 ∷ 0 ∷ 4 ∷ 2 ∷ []) ∷ (42 ∷ 0 ∷ 0 ∷ 0 ∷ 0 ∷ 0 ∷ 0 ∷ 0 ∷ 0 ∷ 2 ∷ []) ∷ [])) 16 gives leaves (answer 3 1 0) (fresh_from 0 16)
    -- check by hand
    ∷ to_check (nodes ((0 ∷ 0 ∷ 0 ∷ 0 ∷ 4 ∷ 2 ∷ []) ∷ (18 ∷ 0 ∷ 0 ∷ 0 ∷ 0 ∷ 0 ∷ 0 ∷ 0 ∷ 0 ∷ 0 ∷ 2 ∷ []) ∷ [])) 16 gives leaves (answer 3 1 0) (fresh_from 0 16)
    -- check by hand
    ∷ to_check (nodes ((0 ∷ 0 ∷ 0 ∷ 0 ∷ 4 ∷ 2 ∷ []) ∷ (28 ∷ 0 ∷ 0 ∷ 0 ∷ 0 ∷ 0 ∷ 0 ∷ 0 ∷ 0 ∷ 0 ∷ 0 ∷ 2 ∷ []) ∷ [])) 16 gives leaves (answer 3 1 0) (fresh_from 0 16)
    -- check by hand
    ∷ to_check (nodes ((0 ∷ 0 ∷ 0 ∷ 0 ∷ 4 ∷ 2 ∷ []) ∷ (40 ∷ 0 ∷ 0 ∷ 0 ∷ 0 ∷ 0 ∷ 18 ∷ 0 ∷ 0 ∷ 0 ∷ 0 ∷ 0 ∷ 2 ∷ []) ∷ [])) 16 gives leaves (answer 3 1 0) (fresh_from 0 16)
    -- check by hand
    ∷ to_check (nodes ((0 ∷ 0 ∷ 0 ∷ 0 ∷ 4 ∷ 2 ∷ []) ∷ (46 ∷ 0 ∷ 0 ∷ 0 ∷ 0 ∷ 4 ∷ 0 ∷ 0 ∷ 0 ∷ 0 ∷ 0 ∷ 0 ∷ 0 ∷ 2 ∷ []) ∷ [])) 16 gives leaves (answer 3 1 0) (fresh_from 0 16)
    -- check by hand
    ∷ to_check (nodes ((0 ∷ 0 ∷ 0 ∷ 0 ∷ 4 ∷ 2 ∷ []) ∷ (8 ∷ 0 ∷ 0 ∷ 0 ∷ 0 ∷ 0 ∷ 0 ∷ 0 ∷ 0 ∷ 0 ∷ 0 ∷ 0 ∷ 0 ∷ 0 ∷ 2 ∷ []) ∷ [])) 16 gives leaves (answer 3 1 0) (fresh_from 0 16)
    -- check by hand
    ∷ to_check (nodes ((0 ∷ 0 ∷ 0 ∷ 0 ∷ 4 ∷ 2 ∷ []) ∷ (22 ∷ 0 ∷ 0 ∷ 0 ∷ 0 ∷ 0 ∷ 0 ∷ 0 ∷ 0 ∷ 0 ∷ 0 ∷ 0 ∷ 0 ∷ 0 ∷ 0 ∷ 2 ∷ []) ∷ [])) 16 gives leaves (answer 3 1 0) (fresh_from 0 16)
    -- check by hand
    ∷ to_check (nodes ((0 ∷ 0 ∷ 0 ∷ 0 ∷ 0 ∷ 2 ∷ []) ∷ (32 ∷ 0 ∷ 0 ∷ 0 ∷ 0 ∷ 0 ∷ 0 ∷ 0 ∷ 0 ∷ 0 ∷ 0 ∷ 0 ∷ 0 ∷ 0 ∷ 0 ∷ 0 ∷ 2 ∷ []) ∷ [])) 16 gives leaves (answer 3 1 0) (fresh_from 0 16)
    -- check by hand
    ∷ to_check (nodes ((2 ∷ 0 ∷ 0 ∷ 0 ∷ 6 ∷ 0 ∷ 2 ∷ 0 ∷ 2 ∷ 4 ∷ 4 ∷ 4 ∷ 4 ∷ []) ∷ (2 ∷ 0 ∷ 0 ∷ 0 ∷ 6 ∷ 2 ∷ 2 ∷ 0 ∷ 2 ∷ 6 ∷ 4 ∷ 4 ∷ 4 ∷ []) ∷ (20 ∷ 0 ∷ 2 ∷ []) ∷ [])) 24 gives leaves (answer 8 2 0) (fresh_from 0 24)
    -- check by hand
    ∷ to_check (nodes ((2 ∷ 0 ∷ 0 ∷ 0 ∷ 6 ∷ 0 ∷ 2 ∷ 0 ∷ 2 ∷ 4 ∷ 4 ∷ 4 ∷ 4 ∷ []) ∷ (12 ∷ 0 ∷ 0 ∷ 0 ∷ 0 ∷ 0 ∷ 0 ∷ 0 ∷ 0 ∷ 6 ∷ 6 ∷ 6 ∷ 6 ∷ 4 ∷ 2 ∷ 2 ∷ 2 ∷ []) ∷ [])) 16 gives leaves (answer 8 1 0) (fresh_from 0 16)
    -- check by hand
    ∷ to_check (nodes ((2 ∷ 0 ∷ 0 ∷ 0 ∷ 6 ∷ 0 ∷ 2 ∷ 0 ∷ 2 ∷ 4 ∷ 4 ∷ 4 ∷ 4 ∷ []) ∷ (14 ∷ 0 ∷ 0 ∷ 0 ∷ 0 ∷ 0 ∷ 0 ∷ 0 ∷ 0 ∷ 4 ∷ 2 ∷ 2 ∷ 2 ∷ 2 ∷ 2 ∷ 2 ∷ 2 ∷ []) ∷ [])) 16 gives leaves (answer 8 1 0) (fresh_from 0 16)
    -- check by hand
    ∷ to_check (nodes ((2 ∷ 0 ∷ 0 ∷ 0 ∷ 6 ∷ 0 ∷ 2 ∷ 0 ∷ 2 ∷ 4 ∷ 4 ∷ 4 ∷ 4 ∷ []) ∷ (10 ∷ 0 ∷ 0 ∷ 0 ∷ 0 ∷ 0 ∷ 0 ∷ 0 ∷ 0 ∷ 8 ∷ 4 ∷ 4 ∷ 4 ∷ []) ∷ [])) 16 gives leaves (answer 8 1 0) (fresh_from 0 16)
    -- check by hand
    ∷ to_check (nodes ((2 ∷ 0 ∷ 0 ∷ 0 ∷ 6 ∷ 0 ∷ 2 ∷ 0 ∷ 2 ∷ 4 ∷ 4 ∷ 4 ∷ 4 ∷ []) ∷ (6 ∷ 0 ∷ 0 ∷ 0 ∷ 0 ∷ 0 ∷ 0 ∷ 0 ∷ 0 ∷ 1 ∷ 2 ∷ 2 ∷ 2 ∷ []) ∷ [])) 16 gives leaves (answer 7 1 0) (fresh_from 0 16)
    -- check by hand
    ∷ to_check (nodes ((2 ∷ 0 ∷ 0 ∷ 0 ∷ 6 ∷ 0 ∷ 2 ∷ 0 ∷ 2 ∷ 4 ∷ 4 ∷ 4 ∷ 4 ∷ []) ∷ (38 ∷ 0 ∷ 0 ∷ 0 ∷ 0 ∷ 2 ∷ 0 ∷ 0 ∷ 0 ∷ 1 ∷ 2 ∷ 2 ∷ 2 ∷ []) ∷ [])) 16 gives leaves (answer 7 1 0) (fresh_from 0 16)
    -- check by hand
    ∷ to_check (nodes ((2 ∷ 0 ∷ 0 ∷ 0 ∷ 6 ∷ 0 ∷ 2 ∷ 0 ∷ 2 ∷ 4 ∷ 4 ∷ 4 ∷ 4 ∷ []) ∷ (12 ∷ 0 ∷ 0 ∷ 0 ∷ 0 ∷ 0 ∷ 0 ∷ 0 ∷ 0 ∷ 6 ∷ 6 ∷ 6 ∷ 6 ∷ 1 ∷ []) ∷ [])) 16 gives leaves (answer 7 1 0) (fresh_from 0 16)
    ∷ []

pub table31_agrees : Agree table31
unfolding everything
table31_agrees = refl
