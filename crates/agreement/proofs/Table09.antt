-- Written by tests/model/tables.py: change that script or cases.py, never this file.
use mathlib.Core.Path.{refl}
use mathlib.Core.List.{List, [], ◌∷◌, ◌++◌}
use Rattle.guarantees.proofs.Everything.{everything}
use Rattle.agreement.specs.Cases.{nodes, times, fresh_from, to_check, to_list, leaves, text, answer, Case, ◌gives◌, Agree}

abbrev pub table09 : List Case
table09 =
    -- rules 2 and 4 op 2
    to_check (nodes ((2 ∷ 0 ∷ 0 ∷ 0 ∷ 6 ∷ 0 ∷ 2 ∷ 2 ∷ 2 ∷ 4 ∷ 6 ∷ []) ∷ (48 ∷ 2 ∷ 0 ∷ 0 ∷ 0 ∷ 0 ∷ 0 ∷ 0 ∷ 0 ∷ 2 ∷ []) ∷ (18 ∷ 0 ∷ 18446744073709551614 ∷ []) ∷ [])) 64 gives leaves (answer 2 1 0) (fresh_from 0 64)
    -- rules 2 and 7 op 2
    ∷ to_check (nodes ((2 ∷ 0 ∷ 0 ∷ 0 ∷ 6 ∷ 0 ∷ 2 ∷ 2 ∷ 2 ∷ 4 ∷ 6 ∷ []) ∷ (1 ∷ []) ∷ [])) 64 gives leaves (answer 2 1 0) (fresh_from 0 64)
    -- rules 3 and 4 op 2
    ∷ to_check (nodes ((2 ∷ 0 ∷ 0 ∷ 0 ∷ 6 ∷ 0 ∷ 2 ∷ 2 ∷ 2 ∷ 4 ∷ 6 ∷ []) ∷ (4 ∷ 2 ∷ 2 ∷ 0 ∷ 0 ∷ 0 ∷ 0 ∷ 0 ∷ 0 ∷ 2 ∷ []) ∷ [])) 64 gives leaves (answer 3 1 0) (fresh_from 0 64)
    -- rules 4 and 7 op 2
    ∷ to_check (nodes ((2 ∷ 0 ∷ 0 ∷ 0 ∷ 6 ∷ 0 ∷ 2 ∷ 2 ∷ 2 ∷ 4 ∷ 6 ∷ []) ∷ (4 ∷ 1 ∷ 0 ∷ 0 ∷ 0 ∷ 0 ∷ 0 ∷ 0 ∷ 0 ∷ 4 ∷ []) ∷ (0 ∷ 0 ∷ 0 ∷ 0 ∷ 2 ∷ 6 ∷ []) ∷ [])) 64 gives leaves (answer 4 1 0) (fresh_from 0 64)
    -- rules 2 and 8 op 4
    ∷ to_check (nodes ((2 ∷ 0 ∷ 0 ∷ 0 ∷ 6 ∷ 0 ∷ 2 ∷ 2 ∷ 2 ∷ 4 ∷ 6 ∷ []) ∷ (48 ∷ 0 ∷ 0 ∷ 0 ∷ 0 ∷ 0 ∷ 0 ∷ 0 ∷ 0 ∷ 2097152 ∷ 2097152 ∷ 2097152 ∷ 2097152 ∷ []) ∷ [])) 64 gives leaves (answer 2 1 0) (fresh_from 0 64)
    -- rules 3 and 7 op 4
    ∷ to_check (nodes ((2 ∷ 0 ∷ 0 ∷ 0 ∷ 6 ∷ 0 ∷ 2 ∷ 2 ∷ 2 ∷ 4 ∷ 6 ∷ []) ∷ (8 ∷ 0 ∷ 2 ∷ 0 ∷ 0 ∷ 0 ∷ 0 ∷ 0 ∷ 0 ∷ 0 ∷ 12 ∷ []) ∷ (18 ∷ 0 ∷ 18446744073709551614 ∷ []) ∷ [])) 64 gives leaves (answer 3 1 0) (fresh_from 0 64)
    -- rules 3 and 8 op 4
    ∷ to_check (nodes ((2 ∷ 0 ∷ 0 ∷ 0 ∷ 6 ∷ 0 ∷ 2 ∷ 2 ∷ 2 ∷ 4 ∷ 6 ∷ []) ∷ (8 ∷ 0 ∷ 2 ∷ 0 ∷ 0 ∷ 0 ∷ 0 ∷ 0 ∷ 0 ∷ 14 ∷ []) ∷ (0 ∷ 10 ∷ []) ∷ [])) 64 gives leaves (answer 3 1 0) (fresh_from 0 64)
    -- rules 3 and 8 op 4
    ∷ to_check (nodes ((2 ∷ 0 ∷ 0 ∷ 0 ∷ 6 ∷ 0 ∷ 2 ∷ 2 ∷ 2 ∷ 4 ∷ 6 ∷ []) ∷ (8 ∷ 0 ∷ 2 ∷ 0 ∷ 0 ∷ 0 ∷ 0 ∷ 0 ∷ 0 ∷ 2097152 ∷ 2097152 ∷ 2097152 ∷ 2097152 ∷ []) ∷ [])) 64 gives leaves (answer 3 1 0) (fresh_from 0 64)
    -- rules 3 and 4 op 4
    ∷ to_check (nodes ((2 ∷ 0 ∷ 0 ∷ 0 ∷ 6 ∷ 0 ∷ 2 ∷ 2 ∷ 2 ∷ 4 ∷ 6 ∷ []) ∷ (8 ∷ 18446744073709551614 ∷ 0 ∷ 0 ∷ 0 ∷ 0 ∷ 0 ∷ 0 ∷ 0 ∷ 12 ∷ 0 ∷ 0 ∷ 0 ∷ 0 ∷ 0 ∷ 0 ∷ 18446744073709551615 ∷ []) ∷ [])) 64 gives leaves (answer 3 1 0) (fresh_from 0 64)
    -- rules 3 and 7 op 4
    ∷ to_check (nodes ((2 ∷ 0 ∷ 0 ∷ 0 ∷ 6 ∷ 0 ∷ 2 ∷ 2 ∷ 2 ∷ 4 ∷ 6 ∷ []) ∷ (8 ∷ 0 ∷ 0 ∷ 0 ∷ 0 ∷ 0 ∷ 0 ∷ 0 ∷ 0 ∷ 12 ∷ 0 ∷ 4 ∷ 0 ∷ 0 ∷ 0 ∷ 0 ∷ 18446744073709551615 ∷ []) ∷ (198 ∷ []) ∷ [])) 64 gives leaves (answer 3 1 0) (fresh_from 0 64)
    -- rules 3 and 7 op 4
    ∷ to_check (nodes ((2 ∷ 0 ∷ 0 ∷ 0 ∷ 6 ∷ 0 ∷ 2 ∷ 2 ∷ 2 ∷ 4 ∷ 6 ∷ []) ∷ (8 ∷ 0 ∷ 0 ∷ 0 ∷ 0 ∷ 0 ∷ 0 ∷ 0 ∷ 0 ∷ 0 ∷ 12 ∷ 0 ∷ 0 ∷ 0 ∷ 0 ∷ 0 ∷ 18446744073709551615 ∷ []) ∷ [])) 64 gives leaves (answer 3 1 0) (fresh_from 0 64)
    -- rules 4 and 8 op 4
    ∷ to_check (nodes ((2 ∷ 0 ∷ 0 ∷ 0 ∷ 6 ∷ 0 ∷ 2 ∷ 2 ∷ 2 ∷ 4 ∷ 6 ∷ []) ∷ (8 ∷ 18446744073709551614 ∷ 0 ∷ 0 ∷ 0 ∷ 0 ∷ 0 ∷ 0 ∷ 0 ∷ 14 ∷ []) ∷ [])) 64 gives leaves (answer 4 1 0) (fresh_from 0 64)
    -- rules 7 and 8 op 5
    ∷ to_check (nodes ((2 ∷ 0 ∷ 0 ∷ 0 ∷ 6 ∷ 0 ∷ 2 ∷ 2 ∷ 2 ∷ 2 ∷ 6 ∷ []) ∷ (10 ∷ 0 ∷ 0 ∷ 0 ∷ 0 ∷ 0 ∷ 0 ∷ 0 ∷ 0 ∷ 1 ∷ 8 ∷ []) ∷ (0 ∷ 10 ∷ []) ∷ [])) 64 gives leaves (answer 7 1 0) (fresh_from 0 64)
    -- rules 2 and 8 op 6
    ∷ to_check (nodes ((2 ∷ 0 ∷ 0 ∷ 0 ∷ 6 ∷ 0 ∷ 2 ∷ 2 ∷ 2 ∷ 4 ∷ 6 ∷ []) ∷ (48 ∷ 0 ∷ 0 ∷ 0 ∷ 0 ∷ 0 ∷ 0 ∷ 0 ∷ 0 ∷ 4 ∷ 10 ∷ 0 ∷ 0 ∷ 2 ∷ 4 ∷ []) ∷ (198 ∷ []) ∷ [])) 64 gives leaves (answer 2 1 0) (fresh_from 0 64)
    -- rules 2 and 8 op 6
    ∷ to_check (nodes ((2 ∷ 0 ∷ 0 ∷ 0 ∷ 6 ∷ 0 ∷ 2 ∷ 2 ∷ 2 ∷ 4 ∷ 6 ∷ []) ∷ (1 ∷ 0 ∷ 0 ∷ 0 ∷ 0 ∷ 0 ∷ 0 ∷ 0 ∷ 0 ∷ 6 ∷ 10 ∷ 2 ∷ 0 ∷ 2 ∷ 4 ∷ []) ∷ (198 ∷ []) ∷ [])) 64 gives leaves (answer 2 1 0) (fresh_from 0 64)
    -- rules 3 and 4 op 6
    ∷ to_check (nodes ((2 ∷ 0 ∷ 0 ∷ 0 ∷ 6 ∷ 0 ∷ 2 ∷ 2 ∷ 2 ∷ 4 ∷ 6 ∷ []) ∷ (12 ∷ 2 ∷ 2 ∷ 0 ∷ 0 ∷ 0 ∷ 0 ∷ 0 ∷ 0 ∷ 6 ∷ 10 ∷ 0 ∷ 0 ∷ 2 ∷ 4 ∷ []) ∷ [])) 64 gives leaves (answer 3 1 0) (fresh_from 0 64)
    -- rules 3 and 8 op 6
    ∷ to_check (nodes ((2 ∷ 0 ∷ 0 ∷ 0 ∷ 6 ∷ 0 ∷ 2 ∷ 2 ∷ 2 ∷ 4 ∷ 6 ∷ []) ∷ (12 ∷ 0 ∷ 2 ∷ 0 ∷ 0 ∷ 0 ∷ 0 ∷ 0 ∷ 0 ∷ 4 ∷ 10 ∷ 0 ∷ 0 ∷ 2 ∷ 4 ∷ []) ∷ [])) 64 gives leaves (answer 3 1 0) (fresh_from 0 64)
    -- rules 3 and 7 op 6
    ∷ to_check (nodes ((2 ∷ 0 ∷ 0 ∷ 0 ∷ 6 ∷ 0 ∷ 2 ∷ 2 ∷ 2 ∷ 4 ∷ 6 ∷ []) ∷ (12 ∷ 0 ∷ 0 ∷ 0 ∷ 0 ∷ 0 ∷ 0 ∷ 0 ∷ 18446744073709551615 ∷ 6 ∷ 10 ∷ 0 ∷ 0 ∷ 2097154 ∷ 4 ∷ []) ∷ (198 ∷ []) ∷ [])) 64 gives leaves (answer 3 1 0) (fresh_from 0 64)
    -- rules 3 and 8 op 6
    ∷ to_check (nodes ((2 ∷ 0 ∷ 0 ∷ 0 ∷ 6 ∷ 0 ∷ 2 ∷ 2 ∷ 2 ∷ 4 ∷ 6 ∷ []) ∷ (12 ∷ 0 ∷ 0 ∷ 0 ∷ 0 ∷ 0 ∷ 0 ∷ 0 ∷ 18446744073709551615 ∷ 2097152 ∷ 10 ∷ 0 ∷ 0 ∷ 2 ∷ 4 ∷ []) ∷ (198 ∷ []) ∷ [])) 64 gives leaves (answer 3 1 0) (fresh_from 0 64)
    -- rules 4 and 7 op 6
    ∷ to_check (nodes ((2 ∷ 0 ∷ 0 ∷ 0 ∷ 6 ∷ 0 ∷ 2 ∷ 2 ∷ 2 ∷ 4 ∷ 6 ∷ []) ∷ (12 ∷ 2 ∷ 0 ∷ 0 ∷ 0 ∷ 0 ∷ 0 ∷ 0 ∷ 0 ∷ 6 ∷ 10 ∷ 0 ∷ 0 ∷ 2 ∷ 4 ∷ 2 ∷ []) ∷ (198 ∷ []) ∷ [])) 64 gives leaves (answer 4 1 0) (fresh_from 0 64)
    -- rules 4 and 8 op 6
    ∷ to_check (nodes ((2 ∷ 0 ∷ 0 ∷ 0 ∷ 6 ∷ 0 ∷ 2 ∷ 2 ∷ 2 ∷ 4 ∷ 6 ∷ []) ∷ (12 ∷ 18446744073709551614 ∷ 0 ∷ 0 ∷ 0 ∷ 0 ∷ 0 ∷ 0 ∷ 0 ∷ 4 ∷ 10 ∷ 0 ∷ 0 ∷ 2 ∷ 4 ∷ []) ∷ (18 ∷ 0 ∷ 18446744073709551614 ∷ []) ∷ [])) 64 gives leaves (answer 4 1 0) (fresh_from 0 64)
    -- rules 4 and 8 op 6
    ∷ to_check (nodes ((2 ∷ 0 ∷ 0 ∷ 0 ∷ 6 ∷ 0 ∷ 2 ∷ 2 ∷ 2 ∷ 4 ∷ 6 ∷ []) ∷ (12 ∷ 18446744073709551614 ∷ 0 ∷ 0 ∷ 0 ∷ 0 ∷ 0 ∷ 0 ∷ 0 ∷ 2097152 ∷ 10 ∷ 0 ∷ 0 ∷ 2 ∷ 4 ∷ []) ∷ [])) 64 gives leaves (answer 4 1 0) (fresh_from 0 64)
    -- rules 7 and 8 op 6
    ∷ to_check (nodes ((2 ∷ 0 ∷ 0 ∷ 0 ∷ 6 ∷ 0 ∷ 2 ∷ 2 ∷ 2 ∷ 4 ∷ 6 ∷ []) ∷ (12 ∷ 0 ∷ 0 ∷ 0 ∷ 0 ∷ 0 ∷ 0 ∷ 0 ∷ 0 ∷ 6 ∷ 10 ∷ 0 ∷ 0 ∷ 2097152 ∷ 4 ∷ 2 ∷ []) ∷ (18 ∷ 0 ∷ 18446744073709551614 ∷ []) ∷ [])) 64 gives leaves (answer 7 1 0) (fresh_from 0 64)
    -- rules 2 and 7 op 7
    ∷ to_check (nodes ((2 ∷ 0 ∷ 0 ∷ 0 ∷ 6 ∷ 0 ∷ 2 ∷ 2 ∷ 2 ∷ 4 ∷ 6 ∷ []) ∷ (1 ∷ 0 ∷ 0 ∷ 0 ∷ 0 ∷ 0 ∷ 0 ∷ 0 ∷ 0 ∷ 2 ∷ 4 ∷ 0 ∷ 0 ∷ 2 ∷ 2 ∷ 0 ∷ 2 ∷ []) ∷ (198 ∷ []) ∷ [])) 64 gives leaves (answer 2 1 0) (fresh_from 0 64)
    -- rules 2 and 8 op 7
    ∷ to_check (nodes ((2 ∷ 0 ∷ 0 ∷ 0 ∷ 6 ∷ 0 ∷ 2 ∷ 2 ∷ 2 ∷ 4 ∷ 6 ∷ []) ∷ (1 ∷ 0 ∷ 0 ∷ 0 ∷ 0 ∷ 0 ∷ 0 ∷ 0 ∷ 0 ∷ 4 ∷ 4 ∷ 0 ∷ 0 ∷ 2 ∷ 2 ∷ []) ∷ (0 ∷ 0 ∷ 0 ∷ 0 ∷ 2 ∷ 6 ∷ []) ∷ [])) 64 gives leaves (answer 2 1 0) (fresh_from 0 64)
    -- rules 4 and 8 op 7
    ∷ to_check (nodes ((2 ∷ 0 ∷ 0 ∷ 0 ∷ 6 ∷ 0 ∷ 2 ∷ 2 ∷ 2 ∷ 4 ∷ 6 ∷ []) ∷ (14 ∷ 1 ∷ 0 ∷ 0 ∷ 0 ∷ 0 ∷ 0 ∷ 0 ∷ 0 ∷ 2 ∷ 4 ∷ 0 ∷ 0 ∷ 2 ∷ 4 ∷ []) ∷ [])) 64 gives leaves (answer 4 1 0) (fresh_from 0 64)
    -- rules 7 and 8 op 7
    ∷ to_check (nodes ((2 ∷ 0 ∷ 0 ∷ 0 ∷ 6 ∷ 0 ∷ 2 ∷ 2 ∷ 2 ∷ 4 ∷ 6 ∷ []) ∷ (14 ∷ 0 ∷ 0 ∷ 0 ∷ 0 ∷ 0 ∷ 0 ∷ 0 ∷ 0 ∷ 4 ∷ 4 ∷ 0 ∷ 0 ∷ 2 ∷ 2097154 ∷ []) ∷ [])) 64 gives leaves (answer 7 1 0) (fresh_from 0 64)
    -- rules 2 and 11 op 8
    ∷ to_check (nodes ((2 ∷ 0 ∷ 0 ∷ 0 ∷ 6 ∷ 0 ∷ 2 ∷ 2 ∷ 4 ∷ 4 ∷ 6 ∷ []) ∷ (48 ∷ []) ∷ (198 ∷ []) ∷ [])) 64 gives leaves (answer 2 1 0) (fresh_from 0 64)
    -- rules 2 and 3 op 8
    ∷ to_check (nodes ((2 ∷ 0 ∷ 0 ∷ 0 ∷ 6 ∷ 0 ∷ 2 ∷ 2 ∷ 2 ∷ 4 ∷ 6 ∷ []) ∷ (1 ∷ 0 ∷ 2 ∷ 0 ∷ 2 ∷ []) ∷ [])) 64 gives leaves (answer 2 1 0) (fresh_from 0 64)
    -- rules 2 and 11 op 8
    ∷ to_check (nodes ((2 ∷ 0 ∷ 0 ∷ 0 ∷ 6 ∷ 0 ∷ 2 ∷ 2 ∷ 512 ∷ 4 ∷ 6 ∷ []) ∷ (1 ∷ 0 ∷ 0 ∷ 0 ∷ 2 ∷ []) ∷ (18 ∷ 0 ∷ 18446744073709551614 ∷ []) ∷ [])) 64 gives leaves (answer 2 1 0) (fresh_from 0 64)
    -- rules 3 and 11 op 8
    ∷ to_check (nodes ((2 ∷ 0 ∷ 0 ∷ 0 ∷ 6 ∷ 0 ∷ 2 ∷ 2 ∷ 4 ∷ 4 ∷ 6 ∷ []) ∷ (16 ∷ 0 ∷ 2 ∷ []) ∷ (198 ∷ []) ∷ [])) 64 gives leaves (answer 3 1 0) (fresh_from 0 64)
    -- rules 4 and 5 op 8
    ∷ to_check (nodes ((2 ∷ 0 ∷ 0 ∷ 0 ∷ 6 ∷ 0 ∷ 2 ∷ 2 ∷ 2 ∷ 4 ∷ 6 ∷ []) ∷ (16 ∷ 18446744073709551614 ∷ 0 ∷ 0 ∷ 18446744073709551614 ∷ []) ∷ [])) 64 gives leaves (answer 4 1 0) (fresh_from 0 64)
    -- rules 2 and 3 op 9
    ∷ to_check (nodes ((2 ∷ 0 ∷ 0 ∷ 0 ∷ 6 ∷ 0 ∷ 2 ∷ 2 ∷ 2 ∷ 4 ∷ 6 ∷ []) ∷ (2 ∷ 0 ∷ 0 ∷ 0 ∷ 6 ∷ 2 ∷ 2 ∷ 2 ∷ 2 ∷ 4 ∷ 6 ∷ []) ∷ (48 ∷ 0 ∷ 2 ∷ 2 ∷ []) ∷ (0 ∷ 10 ∷ []) ∷ [])) 64 gives leaves (answer 2 2 0) (fresh_from 0 64)
    -- rules 2 and 4 op 9
    ∷ to_check (nodes ((2 ∷ 0 ∷ 0 ∷ 0 ∷ 6 ∷ 0 ∷ 2 ∷ 2 ∷ 2 ∷ 4 ∷ 6 ∷ []) ∷ (2 ∷ 0 ∷ 0 ∷ 0 ∷ 6 ∷ 2 ∷ 2 ∷ 2 ∷ 2 ∷ 4 ∷ 6 ∷ []) ∷ (48 ∷ 0 ∷ 4 ∷ []) ∷ [])) 64 gives leaves (answer 2 2 0) (fresh_from 0 64)
    -- rules 2 and 4 op 9
    ∷ to_check (nodes ((2 ∷ 0 ∷ 0 ∷ 0 ∷ 6 ∷ 0 ∷ 2 ∷ 2 ∷ 2 ∷ 4 ∷ 6 ∷ []) ∷ (2 ∷ 0 ∷ 0 ∷ 0 ∷ 6 ∷ 2 ∷ 2 ∷ 2 ∷ 2 ∷ 4 ∷ 6 ∷ []) ∷ (1 ∷ 0 ∷ 1 ∷ []) ∷ (0 ∷ 0 ∷ 0 ∷ 0 ∷ 2 ∷ 6 ∷ []) ∷ [])) 64 gives leaves (answer 2 2 0) (fresh_from 0 64)
    -- rules 2 and 9 op 9
    ∷ to_check (nodes ((2 ∷ 0 ∷ 0 ∷ 0 ∷ 6 ∷ 0 ∷ 2 ∷ 2 ∷ 2 ∷ 4 ∷ 6 ∷ []) ∷ (2 ∷ 0 ∷ 0 ∷ 0 ∷ 6 ∷ 2 ∷ 4 ∷ 2 ∷ 2 ∷ 4 ∷ 6 ∷ []) ∷ (1 ∷ 0 ∷ 2 ∷ []) ∷ [])) 64 gives leaves (answer 2 2 0) (fresh_from 0 64)
    -- rules 3 and 4 op 9
    ∷ to_check (nodes ((2 ∷ 0 ∷ 0 ∷ 0 ∷ 6 ∷ 0 ∷ 2 ∷ 2 ∷ 2 ∷ 4 ∷ 6 ∷ []) ∷ (2 ∷ 0 ∷ 0 ∷ 0 ∷ 6 ∷ 2 ∷ 2 ∷ 2 ∷ 2 ∷ 4 ∷ 6 ∷ []) ∷ (18 ∷ 0 ∷ 4 ∷ 2 ∷ []) ∷ (0 ∷ 0 ∷ 0 ∷ 0 ∷ 2 ∷ 6 ∷ []) ∷ [])) 64 gives leaves (answer 3 2 0) (fresh_from 0 64)
    -- rules 4 and 8 op 9
    ∷ to_check (nodes ((2 ∷ 0 ∷ 0 ∷ 0 ∷ 6 ∷ 0 ∷ 2 ∷ 2 ∷ 2 ∷ 4 ∷ 6 ∷ []) ∷ (2 ∷ 0 ∷ 0 ∷ 0 ∷ 6 ∷ 2 ∷ 2 ∷ 2 ∷ 2 ∷ 4 ∷ 2 ∷ 4 ∷ []) ∷ (18 ∷ 0 ∷ 4 ∷ []) ∷ [])) 64 gives leaves (answer 4 2 0) (fresh_from 0 64)
    -- rules 4 and 11 op 9
    ∷ to_check (nodes ((2 ∷ 0 ∷ 0 ∷ 0 ∷ 6 ∷ 0 ∷ 2 ∷ 2 ∷ 4294967294 ∷ 4 ∷ 6 ∷ []) ∷ (2 ∷ 0 ∷ 0 ∷ 0 ∷ 6 ∷ 2 ∷ 2 ∷ 2 ∷ 2 ∷ 4 ∷ 6 ∷ []) ∷ (18 ∷ 0 ∷ 18446744073709551614 ∷ []) ∷ [])) 64 gives leaves (answer 4 2 0) (fresh_from 0 64)
    -- rules 6 and 11 op 9
    ∷ to_check (nodes ((2 ∷ 0 ∷ 0 ∷ 0 ∷ 6 ∷ 0 ∷ 2 ∷ 2 ∷ 4294967294 ∷ 4 ∷ 6 ∷ []) ∷ (2 ∷ 0 ∷ 0 ∷ 0 ∷ 4 ∷ 2 ∷ 2 ∷ 2 ∷ 2 ∷ 4 ∷ 6 ∷ []) ∷ (18 ∷ 0 ∷ 2 ∷ []) ∷ (18 ∷ 0 ∷ 18446744073709551614 ∷ []) ∷ [])) 64 gives leaves (answer 6 2 0) (fresh_from 0 64)
    -- rules 8 and 9 op 9
    ∷ to_check (nodes ((2 ∷ 0 ∷ 0 ∷ 0 ∷ 6 ∷ 0 ∷ 2 ∷ 2 ∷ 2 ∷ 4 ∷ 6 ∷ []) ∷ (2 ∷ 0 ∷ 0 ∷ 0 ∷ 6 ∷ 2 ∷ 4 ∷ 2 ∷ 2 ∷ 4 ∷ 4 ∷ []) ∷ (18 ∷ 0 ∷ 2 ∷ []) ∷ (0 ∷ 10 ∷ []) ∷ [])) 64 gives leaves (answer 8 2 0) (fresh_from 0 64)
    -- rules 9 and 11 op 9
    ∷ to_check (nodes ((2 ∷ 0 ∷ 0 ∷ 0 ∷ 6 ∷ 0 ∷ 2 ∷ 2 ∷ 4294967294 ∷ 4 ∷ 6 ∷ []) ∷ (2 ∷ 0 ∷ 0 ∷ 0 ∷ 6 ∷ 2 ∷ 4 ∷ 2 ∷ 2 ∷ 4 ∷ 6 ∷ []) ∷ (18 ∷ 0 ∷ 2 ∷ []) ∷ (0 ∷ 10 ∷ []) ∷ [])) 64 gives leaves (answer 9 2 0) (fresh_from 0 64)
    -- rules 2 and 4 op 10
    ∷ to_check (nodes ((2 ∷ 0 ∷ 0 ∷ 0 ∷ 6 ∷ 0 ∷ 2 ∷ 2 ∷ 2 ∷ 4 ∷ 6 ∷ []) ∷ (2 ∷ 0 ∷ 0 ∷ 0 ∷ 6 ∷ 2 ∷ 2 ∷ 2 ∷ 2 ∷ 4 ∷ 6 ∷ []) ∷ (48 ∷ 0 ∷ 4 ∷ []) ∷ (0 ∷ 10 ∷ []) ∷ [])) 64 gives leaves (answer 2 2 0) (fresh_from 0 64)
    -- rules 2 and 4 op 10
    ∷ to_check (nodes ((2 ∷ 0 ∷ 0 ∷ 0 ∷ 6 ∷ 0 ∷ 2 ∷ 2 ∷ 2 ∷ 4 ∷ 6 ∷ []) ∷ (2 ∷ 0 ∷ 0 ∷ 0 ∷ 6 ∷ 2 ∷ 2 ∷ 2 ∷ 2 ∷ 4 ∷ 6 ∷ []) ∷ (1 ∷ 0 ∷ 18446744073709551614 ∷ []) ∷ [])) 64 gives leaves (answer 2 2 0) (fresh_from 0 64)
    -- rules 2 and 6 op 10
    ∷ to_check (nodes ((2 ∷ 0 ∷ 0 ∷ 0 ∷ 6 ∷ 0 ∷ 2 ∷ 2 ∷ 2 ∷ 4 ∷ 6 ∷ []) ∷ (2 ∷ 0 ∷ 0 ∷ 0 ∷ 4 ∷ 2 ∷ 2 ∷ 2 ∷ 2 ∷ 4 ∷ 6 ∷ []) ∷ (1 ∷ 0 ∷ 2 ∷ []) ∷ [])) 64 gives leaves (answer 2 2 0) (fresh_from 0 64)
    -- rules 3 and 4 op 10
    ∷ to_check (nodes ((2 ∷ 0 ∷ 0 ∷ 0 ∷ 6 ∷ 0 ∷ 2 ∷ 2 ∷ 2 ∷ 4 ∷ 6 ∷ []) ∷ (2 ∷ 0 ∷ 0 ∷ 0 ∷ 6 ∷ 2 ∷ 2 ∷ 2 ∷ 2 ∷ 4 ∷ 6 ∷ []) ∷ (20 ∷ 0 ∷ 18446744073709551614 ∷ 2 ∷ []) ∷ (0 ∷ 10 ∷ []) ∷ [])) 64 gives leaves (answer 3 2 0) (fresh_from 0 64)
    -- rules 3 and 9 op 10
    ∷ to_check (nodes ((2 ∷ 0 ∷ 0 ∷ 0 ∷ 6 ∷ 0 ∷ 2 ∷ 2 ∷ 2 ∷ 4 ∷ 6 ∷ []) ∷ (2 ∷ 0 ∷ 0 ∷ 0 ∷ 6 ∷ 2 ∷ 4 ∷ 2 ∷ 2 ∷ 4 ∷ 6 ∷ []) ∷ (20 ∷ 0 ∷ 2 ∷ 2 ∷ []) ∷ (0 ∷ 0 ∷ 0 ∷ 0 ∷ 2 ∷ 6 ∷ []) ∷ [])) 64 gives leaves (answer 3 2 0) (fresh_from 0 64)
    -- rules 4 and 6 op 10
    ∷ to_check (nodes ((2 ∷ 0 ∷ 0 ∷ 0 ∷ 0 ∷ 0 ∷ 2 ∷ 2 ∷ 2 ∷ 4 ∷ 6 ∷ []) ∷ (2 ∷ 0 ∷ 0 ∷ 0 ∷ 0 ∷ 2 ∷ 2 ∷ 2 ∷ 2 ∷ 4 ∷ 6 ∷ []) ∷ (20 ∷ 0 ∷ 1 ∷ []) ∷ [])) 64 gives leaves (answer 4 2 0) (fresh_from 0 64)
    -- rules 4 and 11 op 10
    ∷ to_check (nodes ((2 ∷ 0 ∷ 0 ∷ 0 ∷ 6 ∷ 0 ∷ 2 ∷ 2 ∷ 4294967294 ∷ 4 ∷ 6 ∷ []) ∷ (2 ∷ 0 ∷ 0 ∷ 0 ∷ 6 ∷ 2 ∷ 2 ∷ 3 ∷ 2 ∷ 4 ∷ 6 ∷ []) ∷ (20 ∷ 0 ∷ 18446744073709551614 ∷ []) ∷ (0 ∷ 10 ∷ []) ∷ [])) 64 gives leaves (answer 4 2 0) (fresh_from 0 64)
    -- rules 8 and 9 op 10
    ∷ to_check (nodes ((2 ∷ 0 ∷ 0 ∷ 0 ∷ 6 ∷ 0 ∷ 2 ∷ 2 ∷ 2 ∷ 4 ∷ 6 ∷ []) ∷ (2 ∷ 0 ∷ 0 ∷ 0 ∷ 6 ∷ 2 ∷ 4 ∷ 2 ∷ 2 ∷ 4 ∷ 4 ∷ []) ∷ (20 ∷ 0 ∷ 2 ∷ []) ∷ [])) 64 gives leaves (answer 8 2 0) (fresh_from 0 64)
    -- listing
    ∷ to_list ((128 ∷ 2 ∷ []) ++ times 256 (0 ∷ 4 ∷ 215 ∷ 4 ∷ []) ++ times 12288 (0 ∷ [])) gives text (114 ∷ 101 ∷ 102 ∷ 117 ∷ 115 ∷ 101 ∷ 100 ∷ 32 ∷ 50 ∷ 50 ∷ 32 ∷ 97 ∷ 116 ∷ 32 ∷ 49 ∷ 48 ∷ 50 ∷ 54 ∷ 10 ∷ [])
    ∷ []

pub table09_agrees : Agree table09
unfolding everything
table09_agrees = refl
