-- Written by tests/model/tables.py: change that script or cases.py, never this file.
use mathlib.Core.Path.{refl}
use mathlib.Core.List.{List, [], ◌∷◌}
use Rattle.guarantees.proofs.Everything.{everything}
use Rattle.agreement.specs.Cases.{nodes, fresh_from, to_check, leaves, answer, Case, ◌gives◌, Agree}

abbrev pub table32 : List Case
table32 =
    -- check by hand
    to_check (nodes ((2 ∷ 0 ∷ 0 ∷ 0 ∷ 6 ∷ 0 ∷ 2 ∷ 0 ∷ 2 ∷ 4 ∷ 4 ∷ 4 ∷ 4 ∷ []) ∷ (14 ∷ 0 ∷ 0 ∷ 0 ∷ 0 ∷ 0 ∷ 0 ∷ 0 ∷ 0 ∷ 2 ∷ 2 ∷ 2 ∷ 2 ∷ 1 ∷ []) ∷ [])) 16 gives leaves (answer 7 1 0) (fresh_from 0 16)
    -- check by hand
    ∷ to_check (nodes ((2 ∷ 0 ∷ 0 ∷ 0 ∷ 6 ∷ 0 ∷ 2 ∷ 0 ∷ 2 ∷ 4 ∷ 4 ∷ 4 ∷ 4 ∷ []) ∷ (4 ∷ 0 ∷ 0 ∷ 0 ∷ 0 ∷ 0 ∷ 0 ∷ 0 ∷ 0 ∷ 8 ∷ 2 ∷ 4 ∷ 6 ∷ []) ∷ [])) 16 gives leaves (answer 7 1 0) (fresh_from 0 16)
    -- check by hand
    ∷ to_check (nodes ((2 ∷ 0 ∷ 0 ∷ 0 ∷ 6 ∷ 0 ∷ 2 ∷ 0 ∷ 2 ∷ 3 ∷ 4 ∷ 4 ∷ 4 ∷ []) ∷ [])) 8 gives leaves (answer 7 0 0) (fresh_from 0 8)
    -- check by hand
    ∷ to_check (nodes ((2 ∷ 0 ∷ 0 ∷ 0 ∷ 6 ∷ 0 ∷ 2 ∷ 0 ∷ 2 ∷ 2097154 ∷ 4 ∷ 4 ∷ 4 ∷ []) ∷ [])) 8 gives leaves (answer 7 0 0) (fresh_from 0 8)
    -- check by hand
    ∷ to_check (nodes ((2 ∷ 0 ∷ 0 ∷ 0 ∷ 6 ∷ 0 ∷ 2 ∷ 0 ∷ 2 ∷ 4 ∷ 4 ∷ 4 ∷ 4 ∷ []) ∷ (2 ∷ 0 ∷ 0 ∷ 0 ∷ 6 ∷ 2 ∷ 2 ∷ 0 ∷ 2 ∷ 4 ∷ 6 ∷ 4 ∷ 4 ∷ []) ∷ (20 ∷ 0 ∷ 2 ∷ []) ∷ [])) 24 gives leaves (answer 8 2 0) (fresh_from 0 24)
    -- check by hand
    ∷ to_check (nodes ((2 ∷ 0 ∷ 0 ∷ 0 ∷ 6 ∷ 0 ∷ 2 ∷ 0 ∷ 2 ∷ 4 ∷ 4 ∷ 4 ∷ 4 ∷ []) ∷ (12 ∷ 0 ∷ 0 ∷ 0 ∷ 0 ∷ 0 ∷ 0 ∷ 0 ∷ 0 ∷ 6 ∷ 6 ∷ 6 ∷ 6 ∷ 2 ∷ 4 ∷ 2 ∷ 2 ∷ []) ∷ [])) 16 gives leaves (answer 8 1 0) (fresh_from 0 16)
    -- check by hand
    ∷ to_check (nodes ((2 ∷ 0 ∷ 0 ∷ 0 ∷ 6 ∷ 0 ∷ 2 ∷ 0 ∷ 2 ∷ 4 ∷ 4 ∷ 4 ∷ 4 ∷ []) ∷ (14 ∷ 0 ∷ 0 ∷ 0 ∷ 0 ∷ 0 ∷ 0 ∷ 0 ∷ 0 ∷ 2 ∷ 4 ∷ 2 ∷ 2 ∷ 2 ∷ 2 ∷ 2 ∷ 2 ∷ []) ∷ [])) 16 gives leaves (answer 8 1 0) (fresh_from 0 16)
    -- check by hand
    ∷ to_check (nodes ((2 ∷ 0 ∷ 0 ∷ 0 ∷ 6 ∷ 0 ∷ 2 ∷ 0 ∷ 2 ∷ 4 ∷ 4 ∷ 4 ∷ 4 ∷ []) ∷ (10 ∷ 0 ∷ 0 ∷ 0 ∷ 0 ∷ 0 ∷ 0 ∷ 0 ∷ 0 ∷ 4 ∷ 8 ∷ 4 ∷ 4 ∷ []) ∷ [])) 16 gives leaves (answer 8 1 0) (fresh_from 0 16)
    -- check by hand
    ∷ to_check (nodes ((2 ∷ 0 ∷ 0 ∷ 0 ∷ 6 ∷ 0 ∷ 2 ∷ 0 ∷ 2 ∷ 4 ∷ 4 ∷ 4 ∷ 4 ∷ []) ∷ (6 ∷ 0 ∷ 0 ∷ 0 ∷ 0 ∷ 0 ∷ 0 ∷ 0 ∷ 0 ∷ 2 ∷ 8589934592 ∷ 2 ∷ 2 ∷ []) ∷ [])) 16 gives leaves (answer 7 1 0) (fresh_from 0 16)
    -- check by hand
    ∷ to_check (nodes ((2 ∷ 0 ∷ 0 ∷ 0 ∷ 6 ∷ 0 ∷ 2 ∷ 0 ∷ 2 ∷ 4 ∷ 4 ∷ 4 ∷ 4 ∷ []) ∷ (38 ∷ 0 ∷ 0 ∷ 0 ∷ 0 ∷ 2 ∷ 0 ∷ 0 ∷ 0 ∷ 2 ∷ 8589934592 ∷ 2 ∷ 2 ∷ []) ∷ [])) 16 gives leaves (answer 7 1 0) (fresh_from 0 16)
    -- check by hand
    ∷ to_check (nodes ((2 ∷ 0 ∷ 0 ∷ 0 ∷ 6 ∷ 0 ∷ 2 ∷ 0 ∷ 2 ∷ 4 ∷ 4 ∷ 4 ∷ 4 ∷ []) ∷ (12 ∷ 0 ∷ 0 ∷ 0 ∷ 0 ∷ 0 ∷ 0 ∷ 0 ∷ 0 ∷ 6 ∷ 6 ∷ 6 ∷ 6 ∷ 0 ∷ 2097154 ∷ []) ∷ [])) 16 gives leaves (answer 7 1 0) (fresh_from 0 16)
    -- check by hand
    ∷ to_check (nodes ((2 ∷ 0 ∷ 0 ∷ 0 ∷ 6 ∷ 0 ∷ 2 ∷ 0 ∷ 2 ∷ 4 ∷ 4 ∷ 4 ∷ 4 ∷ []) ∷ (14 ∷ 0 ∷ 0 ∷ 0 ∷ 0 ∷ 0 ∷ 0 ∷ 0 ∷ 0 ∷ 2 ∷ 2 ∷ 2 ∷ 2 ∷ 0 ∷ 2097154 ∷ []) ∷ [])) 16 gives leaves (answer 7 1 0) (fresh_from 0 16)
    -- check by hand
    ∷ to_check (nodes ((2 ∷ 0 ∷ 0 ∷ 0 ∷ 6 ∷ 0 ∷ 2 ∷ 0 ∷ 2 ∷ 4 ∷ 4 ∷ 4 ∷ 4 ∷ []) ∷ (4 ∷ 0 ∷ 0 ∷ 0 ∷ 0 ∷ 0 ∷ 0 ∷ 0 ∷ 0 ∷ 0 ∷ 1 ∷ 4 ∷ 6 ∷ []) ∷ [])) 16 gives leaves (answer 7 1 0) (fresh_from 0 16)
    -- check by hand
    ∷ to_check (nodes ((2 ∷ 0 ∷ 0 ∷ 0 ∷ 6 ∷ 0 ∷ 2 ∷ 0 ∷ 2 ∷ 4 ∷ 3 ∷ 4 ∷ 4 ∷ []) ∷ [])) 8 gives leaves (answer 7 0 0) (fresh_from 0 8)
    -- check by hand
    ∷ to_check (nodes ((2 ∷ 0 ∷ 0 ∷ 0 ∷ 6 ∷ 0 ∷ 2 ∷ 0 ∷ 2 ∷ 4 ∷ 2097154 ∷ 4 ∷ 4 ∷ []) ∷ [])) 8 gives leaves (answer 7 0 0) (fresh_from 0 8)
    -- check by hand
    ∷ to_check (nodes ((2 ∷ 0 ∷ 0 ∷ 0 ∷ 6 ∷ 0 ∷ 2 ∷ 0 ∷ 2 ∷ 4 ∷ 4 ∷ 4 ∷ 4 ∷ []) ∷ (2 ∷ 0 ∷ 0 ∷ 0 ∷ 6 ∷ 2 ∷ 2 ∷ 0 ∷ 2 ∷ 4 ∷ 4 ∷ 6 ∷ 4 ∷ []) ∷ (20 ∷ 0 ∷ 2 ∷ []) ∷ [])) 24 gives leaves (answer 8 2 0) (fresh_from 0 24)
    -- check by hand
    ∷ to_check (nodes ((2 ∷ 0 ∷ 0 ∷ 0 ∷ 6 ∷ 0 ∷ 2 ∷ 0 ∷ 2 ∷ 4 ∷ 4 ∷ 4 ∷ 4 ∷ []) ∷ (12 ∷ 0 ∷ 0 ∷ 0 ∷ 0 ∷ 0 ∷ 0 ∷ 0 ∷ 0 ∷ 6 ∷ 6 ∷ 6 ∷ 6 ∷ 2 ∷ 2 ∷ 4 ∷ 2 ∷ []) ∷ [])) 16 gives leaves (answer 8 1 0) (fresh_from 0 16)
    -- check by hand
    ∷ to_check (nodes ((2 ∷ 0 ∷ 0 ∷ 0 ∷ 6 ∷ 0 ∷ 2 ∷ 0 ∷ 2 ∷ 4 ∷ 4 ∷ 4 ∷ 4 ∷ []) ∷ (14 ∷ 0 ∷ 0 ∷ 0 ∷ 0 ∷ 0 ∷ 0 ∷ 0 ∷ 0 ∷ 2 ∷ 2 ∷ 4 ∷ 2 ∷ 2 ∷ 2 ∷ 2 ∷ 2 ∷ []) ∷ [])) 16 gives leaves (answer 8 1 0) (fresh_from 0 16)
    -- check by hand
    ∷ to_check (nodes ((2 ∷ 0 ∷ 0 ∷ 0 ∷ 6 ∷ 0 ∷ 2 ∷ 0 ∷ 2 ∷ 4 ∷ 4 ∷ 4 ∷ 4 ∷ []) ∷ (10 ∷ 0 ∷ 0 ∷ 0 ∷ 0 ∷ 0 ∷ 0 ∷ 0 ∷ 0 ∷ 4 ∷ 4 ∷ 8 ∷ 4 ∷ []) ∷ [])) 16 gives leaves (answer 8 1 0) (fresh_from 0 16)
    -- check by hand
    ∷ to_check (nodes ((2 ∷ 0 ∷ 0 ∷ 0 ∷ 6 ∷ 0 ∷ 2 ∷ 0 ∷ 2 ∷ 4 ∷ 4 ∷ 4 ∷ 4 ∷ []) ∷ (6 ∷ 0 ∷ 0 ∷ 0 ∷ 0 ∷ 0 ∷ 0 ∷ 0 ∷ 0 ∷ 2 ∷ 2 ∷ 14 ∷ 2 ∷ []) ∷ [])) 16 gives leaves (answer 7 1 0) (fresh_from 0 16)
    -- check by hand
    ∷ to_check (nodes ((2 ∷ 0 ∷ 0 ∷ 0 ∷ 6 ∷ 0 ∷ 2 ∷ 0 ∷ 2 ∷ 4 ∷ 4 ∷ 4 ∷ 4 ∷ []) ∷ (38 ∷ 0 ∷ 0 ∷ 0 ∷ 0 ∷ 2 ∷ 0 ∷ 0 ∷ 0 ∷ 2 ∷ 2 ∷ 14 ∷ 2 ∷ []) ∷ [])) 16 gives leaves (answer 7 1 0) (fresh_from 0 16)
    -- check by hand
    ∷ to_check (nodes ((2 ∷ 0 ∷ 0 ∷ 0 ∷ 6 ∷ 0 ∷ 2 ∷ 0 ∷ 2 ∷ 4 ∷ 4 ∷ 4 ∷ 4 ∷ []) ∷ (12 ∷ 0 ∷ 0 ∷ 0 ∷ 0 ∷ 0 ∷ 0 ∷ 0 ∷ 0 ∷ 6 ∷ 6 ∷ 6 ∷ 6 ∷ 0 ∷ 0 ∷ 1 ∷ []) ∷ [])) 16 gives leaves (answer 7 1 0) (fresh_from 0 16)
    -- check by hand
    ∷ to_check (nodes ((2 ∷ 0 ∷ 0 ∷ 0 ∷ 6 ∷ 0 ∷ 2 ∷ 0 ∷ 2 ∷ 4 ∷ 4 ∷ 4 ∷ 4 ∷ []) ∷ (14 ∷ 0 ∷ 0 ∷ 0 ∷ 0 ∷ 0 ∷ 0 ∷ 0 ∷ 0 ∷ 2 ∷ 2 ∷ 2 ∷ 2 ∷ 0 ∷ 0 ∷ 1 ∷ []) ∷ [])) 16 gives leaves (answer 7 1 0) (fresh_from 0 16)
    -- check by hand
    ∷ to_check (nodes ((2 ∷ 0 ∷ 0 ∷ 0 ∷ 6 ∷ 0 ∷ 2 ∷ 0 ∷ 2 ∷ 4 ∷ 4 ∷ 4 ∷ 4 ∷ []) ∷ (4 ∷ 0 ∷ 0 ∷ 0 ∷ 0 ∷ 0 ∷ 0 ∷ 0 ∷ 0 ∷ 0 ∷ 2 ∷ 0 ∷ 6 ∷ []) ∷ [])) 16 gives leaves (answer 7 1 0) (fresh_from 0 16)
    -- check by hand
    ∷ to_check (nodes ((2 ∷ 0 ∷ 0 ∷ 0 ∷ 6 ∷ 0 ∷ 2 ∷ 0 ∷ 2 ∷ 4 ∷ 4 ∷ 3 ∷ 4 ∷ []) ∷ [])) 8 gives leaves (answer 7 0 0) (fresh_from 0 8)
    -- check by hand
    ∷ to_check (nodes ((2 ∷ 0 ∷ 0 ∷ 0 ∷ 6 ∷ 0 ∷ 2 ∷ 0 ∷ 2 ∷ 4 ∷ 4 ∷ 2097154 ∷ 4 ∷ []) ∷ [])) 8 gives leaves (answer 7 0 0) (fresh_from 0 8)
    -- check by hand
    ∷ to_check (nodes ((2 ∷ 0 ∷ 0 ∷ 0 ∷ 6 ∷ 0 ∷ 2 ∷ 0 ∷ 2 ∷ 4 ∷ 4 ∷ 4 ∷ 4 ∷ []) ∷ (2 ∷ 0 ∷ 0 ∷ 0 ∷ 6 ∷ 2 ∷ 2 ∷ 0 ∷ 2 ∷ 4 ∷ 4 ∷ 4 ∷ 6 ∷ []) ∷ (20 ∷ 0 ∷ 2 ∷ []) ∷ [])) 24 gives leaves (answer 8 2 0) (fresh_from 0 24)
    -- check by hand
    ∷ to_check (nodes ((2 ∷ 0 ∷ 0 ∷ 0 ∷ 6 ∷ 0 ∷ 2 ∷ 0 ∷ 2 ∷ 4 ∷ 4 ∷ 4 ∷ 4 ∷ []) ∷ (12 ∷ 0 ∷ 0 ∷ 0 ∷ 0 ∷ 0 ∷ 0 ∷ 0 ∷ 0 ∷ 6 ∷ 6 ∷ 6 ∷ 6 ∷ 2 ∷ 2 ∷ 2 ∷ 4 ∷ []) ∷ [])) 16 gives leaves (answer 8 1 0) (fresh_from 0 16)
    -- check by hand
    ∷ to_check (nodes ((2 ∷ 0 ∷ 0 ∷ 0 ∷ 6 ∷ 0 ∷ 2 ∷ 0 ∷ 2 ∷ 4 ∷ 4 ∷ 4 ∷ 4 ∷ []) ∷ (14 ∷ 0 ∷ 0 ∷ 0 ∷ 0 ∷ 0 ∷ 0 ∷ 0 ∷ 0 ∷ 2 ∷ 2 ∷ 2 ∷ 4 ∷ 2 ∷ 2 ∷ 2 ∷ 2 ∷ []) ∷ [])) 16 gives leaves (answer 8 1 0) (fresh_from 0 16)
    -- check by hand
    ∷ to_check (nodes ((2 ∷ 0 ∷ 0 ∷ 0 ∷ 6 ∷ 0 ∷ 2 ∷ 0 ∷ 2 ∷ 4 ∷ 4 ∷ 4 ∷ 4 ∷ []) ∷ (10 ∷ 0 ∷ 0 ∷ 0 ∷ 0 ∷ 0 ∷ 0 ∷ 0 ∷ 0 ∷ 4 ∷ 4 ∷ 4 ∷ 8 ∷ []) ∷ [])) 16 gives leaves (answer 8 1 0) (fresh_from 0 16)
    -- check by hand
    ∷ to_check (nodes ((2 ∷ 0 ∷ 0 ∷ 0 ∷ 6 ∷ 0 ∷ 2 ∷ 0 ∷ 2 ∷ 4 ∷ 4 ∷ 4 ∷ 4 ∷ []) ∷ (6 ∷ 0 ∷ 0 ∷ 0 ∷ 0 ∷ 0 ∷ 0 ∷ 0 ∷ 0 ∷ 2 ∷ 2 ∷ 2 ∷ 4 ∷ []) ∷ [])) 16 gives leaves (answer 7 1 0) (fresh_from 0 16)
    -- check by hand
    ∷ to_check (nodes ((2 ∷ 0 ∷ 0 ∷ 0 ∷ 6 ∷ 0 ∷ 2 ∷ 0 ∷ 2 ∷ 4 ∷ 4 ∷ 4 ∷ 4 ∷ []) ∷ (38 ∷ 0 ∷ 0 ∷ 0 ∷ 0 ∷ 2 ∷ 0 ∷ 0 ∷ 0 ∷ 2 ∷ 2 ∷ 2 ∷ 4 ∷ []) ∷ [])) 16 gives leaves (answer 7 1 0) (fresh_from 0 16)
    -- check by hand
    ∷ to_check (nodes ((2 ∷ 0 ∷ 0 ∷ 0 ∷ 6 ∷ 0 ∷ 2 ∷ 0 ∷ 2 ∷ 4 ∷ 4 ∷ 4 ∷ 4 ∷ []) ∷ (12 ∷ 0 ∷ 0 ∷ 0 ∷ 0 ∷ 0 ∷ 0 ∷ 0 ∷ 0 ∷ 6 ∷ 6 ∷ 6 ∷ 6 ∷ 0 ∷ 0 ∷ 0 ∷ 2097154 ∷ []) ∷ [])) 16 gives leaves (answer 7 1 0) (fresh_from 0 16)
    -- check by hand
    ∷ to_check (nodes ((2 ∷ 0 ∷ 0 ∷ 0 ∷ 6 ∷ 0 ∷ 2 ∷ 0 ∷ 2 ∷ 4 ∷ 4 ∷ 4 ∷ 4 ∷ []) ∷ (14 ∷ 0 ∷ 0 ∷ 0 ∷ 0 ∷ 0 ∷ 0 ∷ 0 ∷ 0 ∷ 2 ∷ 2 ∷ 2 ∷ 2 ∷ 0 ∷ 0 ∷ 0 ∷ 2097154 ∷ []) ∷ [])) 16 gives leaves (answer 7 1 0) (fresh_from 0 16)
    -- check by hand
    ∷ to_check (nodes ((2 ∷ 0 ∷ 0 ∷ 0 ∷ 6 ∷ 0 ∷ 2 ∷ 0 ∷ 2 ∷ 4 ∷ 4 ∷ 4 ∷ 4 ∷ []) ∷ (4 ∷ 0 ∷ 0 ∷ 0 ∷ 0 ∷ 0 ∷ 0 ∷ 0 ∷ 0 ∷ 0 ∷ 2 ∷ 4 ∷ []) ∷ [])) 16 gives leaves (answer 7 1 0) (fresh_from 0 16)
    -- check by hand
    ∷ to_check (nodes ((2 ∷ 0 ∷ 0 ∷ 0 ∷ 6 ∷ 0 ∷ 2 ∷ 0 ∷ 2 ∷ 4 ∷ 4 ∷ 4 ∷ 3 ∷ []) ∷ [])) 8 gives leaves (answer 7 0 0) (fresh_from 0 8)
    -- check by hand
    ∷ to_check (nodes ((2 ∷ 0 ∷ 0 ∷ 0 ∷ 6 ∷ 0 ∷ 2 ∷ 0 ∷ 2 ∷ 4 ∷ 4 ∷ 4 ∷ 2097154 ∷ []) ∷ [])) 8 gives leaves (answer 7 0 0) (fresh_from 0 8)
    -- check by hand
    ∷ to_check (nodes ((2 ∷ 0 ∷ 0 ∷ 0 ∷ 6 ∷ 0 ∷ 2 ∷ 0 ∷ 2 ∷ []) ∷ (4 ∷ 0 ∷ 0 ∷ 0 ∷ 0 ∷ 0 ∷ 0 ∷ 0 ∷ 0 ∷ 2 ∷ []) ∷ [])) 16 gives leaves (answer 7 1 0) (fresh_from 0 16)
    -- check by hand
    ∷ to_check (nodes ((2 ∷ 0 ∷ 0 ∷ 0 ∷ 6 ∷ 0 ∷ 2 ∷ 0 ∷ 2 ∷ []) ∷ (6 ∷ 0 ∷ 0 ∷ 0 ∷ 0 ∷ 0 ∷ 0 ∷ 0 ∷ 0 ∷ 2 ∷ []) ∷ [])) 16 gives leaves (answer 7 1 0) (fresh_from 0 16)
    -- check by hand
    ∷ to_check (nodes ((2 ∷ 0 ∷ 0 ∷ 0 ∷ 6 ∷ 0 ∷ 2 ∷ 0 ∷ 2 ∷ []) ∷ (38 ∷ 0 ∷ 0 ∷ 0 ∷ 0 ∷ 2 ∷ 0 ∷ 0 ∷ 0 ∷ 2 ∷ []) ∷ [])) 16 gives leaves (answer 7 1 0) (fresh_from 0 16)
    -- check by hand
    ∷ to_check (nodes ((2 ∷ 0 ∷ 0 ∷ 0 ∷ 6 ∷ 0 ∷ 2 ∷ 0 ∷ 2 ∷ []) ∷ (12 ∷ 0 ∷ 0 ∷ 0 ∷ 0 ∷ 0 ∷ 0 ∷ 0 ∷ 0 ∷ 0 ∷ 0 ∷ 0 ∷ 0 ∷ 2 ∷ []) ∷ [])) 16 gives leaves (answer 7 1 0) (fresh_from 0 16)
    -- check by hand
    ∷ to_check (nodes ((2 ∷ 0 ∷ 0 ∷ 0 ∷ 6 ∷ 0 ∷ 2 ∷ 0 ∷ 2 ∷ []) ∷ (14 ∷ 0 ∷ 0 ∷ 0 ∷ 0 ∷ 0 ∷ 0 ∷ 0 ∷ 0 ∷ 0 ∷ 0 ∷ 0 ∷ 0 ∷ 2 ∷ []) ∷ [])) 16 gives leaves (answer 7 1 0) (fresh_from 0 16)
    -- check by hand
    ∷ to_check (nodes ((2 ∷ 0 ∷ 0 ∷ 0 ∷ 6 ∷ 0 ∷ 2 ∷ 0 ∷ 2 ∷ 4 ∷ []) ∷ (6 ∷ 0 ∷ 0 ∷ 0 ∷ 0 ∷ 0 ∷ 0 ∷ 0 ∷ 0 ∷ 0 ∷ 2 ∷ []) ∷ [])) 16 gives leaves (answer 7 1 0) (fresh_from 0 16)
    -- check by hand
    ∷ to_check (nodes ((2 ∷ 0 ∷ 0 ∷ 0 ∷ 6 ∷ 0 ∷ 2 ∷ 0 ∷ 2 ∷ 4 ∷ []) ∷ (38 ∷ 0 ∷ 0 ∷ 0 ∷ 0 ∷ 2 ∷ 0 ∷ 0 ∷ 0 ∷ 0 ∷ 2 ∷ []) ∷ [])) 16 gives leaves (answer 7 1 0) (fresh_from 0 16)
    -- check by hand
    ∷ to_check (nodes ((2 ∷ 0 ∷ 0 ∷ 0 ∷ 6 ∷ 0 ∷ 2 ∷ 0 ∷ 2 ∷ 4 ∷ []) ∷ (12 ∷ 0 ∷ 0 ∷ 0 ∷ 0 ∷ 0 ∷ 0 ∷ 0 ∷ 0 ∷ 4 ∷ 0 ∷ 0 ∷ 0 ∷ 0 ∷ 2 ∷ []) ∷ [])) 16 gives leaves (answer 7 1 0) (fresh_from 0 16)
    -- check by hand
    ∷ to_check (nodes ((2 ∷ 0 ∷ 0 ∷ 0 ∷ 6 ∷ 0 ∷ 2 ∷ 0 ∷ 2 ∷ 4 ∷ []) ∷ (14 ∷ 0 ∷ 0 ∷ 0 ∷ 0 ∷ 0 ∷ 0 ∷ 0 ∷ 0 ∷ 4 ∷ 0 ∷ 0 ∷ 0 ∷ 0 ∷ 2 ∷ []) ∷ [])) 16 gives leaves (answer 7 1 0) (fresh_from 0 16)
    -- check by hand
    ∷ to_check (nodes ((2 ∷ 0 ∷ 0 ∷ 0 ∷ 6 ∷ 0 ∷ 2 ∷ 0 ∷ 2 ∷ 4 ∷ 4 ∷ []) ∷ (4 ∷ 0 ∷ 0 ∷ 0 ∷ 0 ∷ 0 ∷ 0 ∷ 0 ∷ 0 ∷ 0 ∷ 2 ∷ 2 ∷ []) ∷ [])) 16 gives leaves (answer 7 1 0) (fresh_from 0 16)
    -- check by hand
    ∷ to_check (nodes ((2 ∷ 0 ∷ 0 ∷ 0 ∷ 6 ∷ 0 ∷ 2 ∷ 0 ∷ 2 ∷ 4 ∷ 4 ∷ []) ∷ (6 ∷ 0 ∷ 0 ∷ 0 ∷ 0 ∷ 0 ∷ 0 ∷ 0 ∷ 0 ∷ 0 ∷ 0 ∷ 2 ∷ []) ∷ [])) 16 gives leaves (answer 7 1 0) (fresh_from 0 16)
    -- check by hand
    ∷ to_check (nodes ((2 ∷ 0 ∷ 0 ∷ 0 ∷ 6 ∷ 0 ∷ 2 ∷ 0 ∷ 2 ∷ 4 ∷ 4 ∷ []) ∷ (38 ∷ 0 ∷ 0 ∷ 0 ∷ 0 ∷ 2 ∷ 0 ∷ 0 ∷ 0 ∷ 0 ∷ 0 ∷ 2 ∷ []) ∷ [])) 16 gives leaves (answer 7 1 0) (fresh_from 0 16)
    -- check by hand
    ∷ to_check (nodes ((2 ∷ 0 ∷ 0 ∷ 0 ∷ 6 ∷ 0 ∷ 2 ∷ 0 ∷ 2 ∷ 4 ∷ 4 ∷ []) ∷ (12 ∷ 0 ∷ 0 ∷ 0 ∷ 0 ∷ 0 ∷ 0 ∷ 0 ∷ 0 ∷ 4 ∷ 4 ∷ 0 ∷ 0 ∷ 0 ∷ 0 ∷ 2 ∷ []) ∷ [])) 16 gives leaves (answer 7 1 0) (fresh_from 0 16)
    ∷ []

pub table32_agrees : Agree table32
unfolding everything
table32_agrees = refl
