-- Written by tests/model/tables.py: change that script or cases.py, never this file.
use mathlib.Core.Path.{refl}
use mathlib.Core.List.{List, [], ◌∷◌, ◌++◌}
use Rattle.guarantees.proofs.Everything.{everything}
use Rattle.agreement.specs.Cases.{nodes, times, fresh_from, to_check, to_unpack_check, leaves, number, answer, Case, ◌gives◌, Agree}

abbrev pub table07 : List Case
table07 =
    -- rule 6 op 10
    to_check (nodes ((2 ∷ 0 ∷ 0 ∷ 0 ∷ 6 ∷ 0 ∷ 2 ∷ 2 ∷ 2 ∷ 4 ∷ 6 ∷ []) ∷ (2 ∷ 0 ∷ 0 ∷ 0 ∷ 4 ∷ 2 ∷ 2 ∷ 2 ∷ 2 ∷ 4 ∷ 6 ∷ []) ∷ (20 ∷ 0 ∷ 2 ∷ []) ∷ (0 ∷ 0 ∷ 0 ∷ 0 ∷ 2 ∷ 6 ∷ []) ∷ [])) 64 gives leaves (answer 6 2 0) (fresh_from 0 64)
    -- rule 8 op 10
    ∷ to_check (nodes ((2 ∷ 0 ∷ 0 ∷ 0 ∷ 6 ∷ 0 ∷ 2 ∷ 2 ∷ 2 ∷ 4 ∷ 6 ∷ []) ∷ (2 ∷ 0 ∷ 0 ∷ 0 ∷ 6 ∷ 2 ∷ 2 ∷ 2 ∷ 2 ∷ 4 ∷ 4 ∷ []) ∷ (20 ∷ 0 ∷ 2 ∷ []) ∷ (0 ∷ 10 ∷ []) ∷ [])) 64 gives leaves (answer 8 2 0) (fresh_from 0 64)
    -- rule 9 op 10
    ∷ to_check (nodes ((2 ∷ 0 ∷ 0 ∷ 0 ∷ 6 ∷ 0 ∷ 2 ∷ 2 ∷ 2 ∷ 4 ∷ 6 ∷ []) ∷ (2 ∷ 0 ∷ 0 ∷ 0 ∷ 6 ∷ 2 ∷ 4 ∷ 2 ∷ 2 ∷ 4 ∷ 6 ∷ []) ∷ (20 ∷ 0 ∷ 2 ∷ []) ∷ [])) 64 gives leaves (answer 9 2 0) (fresh_from 0 64)
    -- rule 11 op 10
    ∷ to_check (nodes ((2 ∷ 0 ∷ 0 ∷ 0 ∷ 6 ∷ 0 ∷ 2 ∷ 2 ∷ 4294967294 ∷ 4 ∷ 6 ∷ []) ∷ (2 ∷ 0 ∷ 0 ∷ 0 ∷ 6 ∷ 2 ∷ 2 ∷ 3 ∷ 2 ∷ 4 ∷ 6 ∷ []) ∷ (20 ∷ 0 ∷ 2 ∷ []) ∷ (18 ∷ 0 ∷ 18446744073709551614 ∷ []) ∷ [])) 64 gives leaves (answer 11 2 0) (fresh_from 0 64)
    -- rule 3 op 11
    ∷ to_check (nodes ((2 ∷ 0 ∷ 0 ∷ 0 ∷ 6 ∷ 0 ∷ 2 ∷ 2 ∷ 2 ∷ 4 ∷ 6 ∷ []) ∷ (2 ∷ 0 ∷ 0 ∷ 0 ∷ 6 ∷ 2 ∷ 2 ∷ 2 ∷ 2 ∷ 4 ∷ 6 ∷ []) ∷ (22 ∷ 0 ∷ 2 ∷ 0 ∷ 0 ∷ 0 ∷ 0 ∷ 0 ∷ 0 ∷ 0 ∷ 0 ∷ 0 ∷ 0 ∷ 0 ∷ 0 ∷ 0 ∷ 18446744073709551615 ∷ []) ∷ [])) 64 gives leaves (answer 3 2 0) (fresh_from 0 64)
    -- rule 4 op 11
    ∷ to_check (nodes ((2 ∷ 0 ∷ 0 ∷ 0 ∷ 6 ∷ 0 ∷ 2 ∷ 2 ∷ 2 ∷ 4 ∷ 6 ∷ []) ∷ (2 ∷ 0 ∷ 0 ∷ 0 ∷ 6 ∷ 2 ∷ 2 ∷ 2 ∷ 2 ∷ 4 ∷ 6 ∷ []) ∷ (22 ∷ 0 ∷ 18446744073709551614 ∷ []) ∷ [])) 64 gives leaves (answer 4 2 0) (fresh_from 0 64)
    -- rule 6 op 11
    ∷ to_check (nodes ((2 ∷ 0 ∷ 0 ∷ 0 ∷ 6 ∷ 0 ∷ 2 ∷ 2 ∷ 2 ∷ 4 ∷ 6 ∷ []) ∷ (2 ∷ 0 ∷ 0 ∷ 0 ∷ 4 ∷ 2 ∷ 2 ∷ 2 ∷ 2 ∷ 4 ∷ 6 ∷ []) ∷ (22 ∷ 0 ∷ 2 ∷ []) ∷ (0 ∷ 0 ∷ 0 ∷ 0 ∷ 2 ∷ 6 ∷ []) ∷ [])) 64 gives leaves (answer 6 2 0) (fresh_from 0 64)
    -- rule 8 op 11
    ∷ to_check (nodes ((2 ∷ 0 ∷ 0 ∷ 0 ∷ 6 ∷ 0 ∷ 2 ∷ 2 ∷ 2 ∷ 4 ∷ 6 ∷ []) ∷ (2 ∷ 0 ∷ 0 ∷ 0 ∷ 6 ∷ 2 ∷ 2 ∷ 2 ∷ 2 ∷ 4 ∷ 4 ∷ []) ∷ (22 ∷ 0 ∷ 2 ∷ []) ∷ [])) 64 gives leaves (answer 8 2 0) (fresh_from 0 64)
    -- rule 9 op 11
    ∷ to_check (nodes ((2 ∷ 0 ∷ 0 ∷ 0 ∷ 6 ∷ 0 ∷ 2 ∷ 2 ∷ 2 ∷ 4 ∷ 6 ∷ []) ∷ (2 ∷ 0 ∷ 0 ∷ 0 ∷ 6 ∷ 2 ∷ 4 ∷ 2 ∷ 2 ∷ 4 ∷ 6 ∷ []) ∷ (22 ∷ 0 ∷ 2 ∷ []) ∷ (18 ∷ 0 ∷ 18446744073709551614 ∷ []) ∷ [])) 64 gives leaves (answer 9 2 0) (fresh_from 0 64)
    -- rule 2 op 12
    ∷ to_check (nodes ((2 ∷ 0 ∷ 0 ∷ 0 ∷ 6 ∷ 0 ∷ 2 ∷ 2 ∷ 2 ∷ 4 ∷ 6 ∷ []) ∷ (2 ∷ 0 ∷ 0 ∷ 0 ∷ 6 ∷ 2 ∷ 2 ∷ 1 ∷ 1 ∷ 4 ∷ 6 ∷ []) ∷ (48 ∷ 0 ∷ 2 ∷ []) ∷ (18 ∷ 0 ∷ 18446744073709551614 ∷ []) ∷ [])) 64 gives leaves (answer 2 2 0) (fresh_from 0 64)
    -- rule 3 op 12
    ∷ to_check (nodes ((2 ∷ 0 ∷ 0 ∷ 0 ∷ 6 ∷ 0 ∷ 2 ∷ 2 ∷ 2 ∷ 4 ∷ 6 ∷ []) ∷ (2 ∷ 0 ∷ 0 ∷ 0 ∷ 6 ∷ 2 ∷ 2 ∷ 1 ∷ 1 ∷ 4 ∷ 6 ∷ []) ∷ (24 ∷ 0 ∷ 2 ∷ 2 ∷ []) ∷ [])) 64 gives leaves (answer 3 2 0) (fresh_from 0 64)
    -- rule 4 op 12
    ∷ to_check (nodes ((2 ∷ 0 ∷ 0 ∷ 0 ∷ 6 ∷ 0 ∷ 2 ∷ 2 ∷ 2 ∷ 4 ∷ 6 ∷ []) ∷ (2 ∷ 0 ∷ 0 ∷ 0 ∷ 6 ∷ 2 ∷ 2 ∷ 1 ∷ 1 ∷ 4 ∷ 6 ∷ []) ∷ (24 ∷ 0 ∷ 18446744073709551614 ∷ []) ∷ (0 ∷ 0 ∷ 0 ∷ 0 ∷ 2 ∷ 6 ∷ []) ∷ [])) 64 gives leaves (answer 4 2 0) (fresh_from 0 64)
    -- rule 6 op 12
    ∷ to_check (nodes ((2 ∷ 0 ∷ 0 ∷ 0 ∷ 6 ∷ 0 ∷ 2 ∷ 2 ∷ 2 ∷ 4 ∷ 6 ∷ []) ∷ (2 ∷ 0 ∷ 0 ∷ 0 ∷ 4 ∷ 2 ∷ 2 ∷ 1 ∷ 1 ∷ 4 ∷ 6 ∷ []) ∷ (24 ∷ 0 ∷ 2 ∷ []) ∷ [])) 64 gives leaves (answer 6 2 0) (fresh_from 0 64)
    -- rule 8 op 12
    ∷ to_check (nodes ((2 ∷ 0 ∷ 0 ∷ 0 ∷ 6 ∷ 0 ∷ 2 ∷ 2 ∷ 2 ∷ 4 ∷ 6 ∷ []) ∷ (2 ∷ 0 ∷ 0 ∷ 0 ∷ 6 ∷ 2 ∷ 2 ∷ 1 ∷ 1 ∷ 4 ∷ 4 ∷ []) ∷ (24 ∷ 0 ∷ 2 ∷ []) ∷ (18 ∷ 0 ∷ 18446744073709551614 ∷ []) ∷ [])) 64 gives leaves (answer 8 2 0) (fresh_from 0 64)
    -- rule 8 op 12
    ∷ to_check (nodes ((2 ∷ 0 ∷ 0 ∷ 0 ∷ 6 ∷ 0 ∷ 2 ∷ 2 ∷ 2 ∷ 4 ∷ 6 ∷ []) ∷ (2 ∷ 0 ∷ 0 ∷ 0 ∷ 6 ∷ 2 ∷ 2 ∷ 1 ∷ 1 ∷ 4 ∷ 2 ∷ 4 ∷ []) ∷ (24 ∷ 0 ∷ 2 ∷ []) ∷ [])) 64 gives leaves (answer 8 2 0) (fresh_from 0 64)
    -- rule 9 op 12
    ∷ to_check (nodes ((2 ∷ 0 ∷ 0 ∷ 0 ∷ 6 ∷ 0 ∷ 2 ∷ 2 ∷ 2 ∷ 4 ∷ 6 ∷ []) ∷ (2 ∷ 0 ∷ 0 ∷ 0 ∷ 6 ∷ 2 ∷ 4 ∷ 1 ∷ 1 ∷ 4 ∷ 6 ∷ []) ∷ (24 ∷ 0 ∷ 2 ∷ []) ∷ (198 ∷ []) ∷ [])) 64 gives leaves (answer 9 2 0) (fresh_from 0 64)
    -- rule 10 op 12
    ∷ to_check (nodes ((2 ∷ 0 ∷ 0 ∷ 0 ∷ 6 ∷ 0 ∷ 2 ∷ 2 ∷ 2 ∷ 4 ∷ 6 ∷ []) ∷ (2 ∷ 0 ∷ 0 ∷ 0 ∷ 6 ∷ 2 ∷ 2 ∷ 1 ∷ 0 ∷ 4 ∷ 6 ∷ []) ∷ (24 ∷ 0 ∷ 2 ∷ []) ∷ [])) 64 gives leaves (answer 10 2 0) (fresh_from 0 64)
    -- rule 11 op 12
    ∷ to_check (nodes ((2 ∷ 0 ∷ 0 ∷ 0 ∷ 6 ∷ 0 ∷ 2 ∷ 4294967295 ∷ 2 ∷ 4 ∷ 6 ∷ []) ∷ (2 ∷ 0 ∷ 0 ∷ 0 ∷ 6 ∷ 2 ∷ 2 ∷ 1 ∷ 1 ∷ 4 ∷ 6 ∷ []) ∷ (24 ∷ 0 ∷ 2 ∷ []) ∷ (0 ∷ 0 ∷ 0 ∷ 0 ∷ 2 ∷ 6 ∷ []) ∷ [])) 64 gives leaves (answer 11 2 0) (fresh_from 0 64)
    -- rule 2 op 13
    ∷ to_check (nodes ((2 ∷ 0 ∷ 0 ∷ 0 ∷ 6 ∷ 0 ∷ 2 ∷ 2 ∷ 2 ∷ 4 ∷ 6 ∷ []) ∷ (2 ∷ 0 ∷ 0 ∷ 0 ∷ 6 ∷ 2 ∷ 2 ∷ 1 ∷ 1 ∷ 4 ∷ 6 ∷ []) ∷ (1 ∷ 0 ∷ 2 ∷ []) ∷ [])) 64 gives leaves (answer 2 2 0) (fresh_from 0 64)
    -- rule 3 op 13
    ∷ to_check (nodes ((2 ∷ 0 ∷ 0 ∷ 0 ∷ 6 ∷ 0 ∷ 2 ∷ 2 ∷ 2 ∷ 4 ∷ 6 ∷ []) ∷ (2 ∷ 0 ∷ 0 ∷ 0 ∷ 6 ∷ 2 ∷ 2 ∷ 1 ∷ 1 ∷ 4 ∷ 6 ∷ []) ∷ (26 ∷ 0 ∷ 2 ∷ 2 ∷ []) ∷ (18 ∷ 0 ∷ 18446744073709551614 ∷ []) ∷ [])) 64 gives leaves (answer 3 2 0) (fresh_from 0 64)
    -- rule 4 op 13
    ∷ to_check (nodes ((2 ∷ 0 ∷ 0 ∷ 0 ∷ 6 ∷ 0 ∷ 2 ∷ 2 ∷ 2 ∷ 4 ∷ 6 ∷ []) ∷ (2 ∷ 0 ∷ 0 ∷ 0 ∷ 6 ∷ 2 ∷ 2 ∷ 1 ∷ 1 ∷ 4 ∷ 6 ∷ []) ∷ (26 ∷ 0 ∷ 1 ∷ []) ∷ (0 ∷ 10 ∷ []) ∷ [])) 64 gives leaves (answer 4 2 0) (fresh_from 0 64)
    -- rule 6 op 13
    ∷ to_check (nodes ((2 ∷ 0 ∷ 0 ∷ 0 ∷ 6 ∷ 0 ∷ 2 ∷ 2 ∷ 2 ∷ 4 ∷ 6 ∷ []) ∷ (2 ∷ 0 ∷ 0 ∷ 0 ∷ 4 ∷ 2 ∷ 2 ∷ 1 ∷ 1 ∷ 4 ∷ 6 ∷ []) ∷ (26 ∷ 0 ∷ 2 ∷ []) ∷ (18 ∷ 0 ∷ 18446744073709551614 ∷ []) ∷ [])) 64 gives leaves (answer 6 2 0) (fresh_from 0 64)
    -- rule 8 op 13
    ∷ to_check (nodes ((2 ∷ 0 ∷ 0 ∷ 0 ∷ 6 ∷ 0 ∷ 2 ∷ 2 ∷ 2 ∷ 4 ∷ 6 ∷ []) ∷ (2 ∷ 0 ∷ 0 ∷ 0 ∷ 6 ∷ 2 ∷ 2 ∷ 1 ∷ 1 ∷ 4 ∷ 2 ∷ 4 ∷ []) ∷ (26 ∷ 0 ∷ 2 ∷ []) ∷ (18 ∷ 0 ∷ 18446744073709551614 ∷ []) ∷ [])) 64 gives leaves (answer 8 2 0) (fresh_from 0 64)
    -- rule 9 op 13
    ∷ to_check (nodes ((2 ∷ 0 ∷ 0 ∷ 0 ∷ 6 ∷ 0 ∷ 2 ∷ 2 ∷ 2 ∷ 4 ∷ 6 ∷ []) ∷ (2 ∷ 0 ∷ 0 ∷ 0 ∷ 6 ∷ 2 ∷ 4 ∷ 1 ∷ 1 ∷ 4 ∷ 6 ∷ []) ∷ (26 ∷ 0 ∷ 2 ∷ []) ∷ (18 ∷ 0 ∷ 18446744073709551614 ∷ []) ∷ [])) 64 gives leaves (answer 9 2 0) (fresh_from 0 64)
    -- rule 10 op 13
    ∷ to_check (nodes ((2 ∷ 0 ∷ 0 ∷ 0 ∷ 6 ∷ 0 ∷ 2 ∷ 2 ∷ 2 ∷ 4 ∷ 6 ∷ []) ∷ (2 ∷ 0 ∷ 0 ∷ 0 ∷ 6 ∷ 2 ∷ 2 ∷ 1 ∷ 0 ∷ 4 ∷ 6 ∷ []) ∷ (26 ∷ 0 ∷ 2 ∷ []) ∷ [])) 64 gives leaves (answer 10 2 0) (fresh_from 0 64)
    -- rule 2 op 14
    ∷ to_check (nodes ((2 ∷ 0 ∷ 0 ∷ 0 ∷ 6 ∷ 0 ∷ 2 ∷ 2 ∷ 2 ∷ 4 ∷ 6 ∷ []) ∷ (2 ∷ 0 ∷ 0 ∷ 0 ∷ 6 ∷ 2 ∷ 2 ∷ 2 ∷ 2 ∷ 4 ∷ 6 ∷ []) ∷ (1 ∷ 0 ∷ 2 ∷ []) ∷ (198 ∷ []) ∷ [])) 64 gives leaves (answer 2 2 0) (fresh_from 0 64)
    -- rule 3 op 14
    ∷ to_check (nodes ((2 ∷ 0 ∷ 0 ∷ 0 ∷ 6 ∷ 0 ∷ 2 ∷ 2 ∷ 2 ∷ 4 ∷ 6 ∷ []) ∷ (2 ∷ 0 ∷ 0 ∷ 0 ∷ 6 ∷ 2 ∷ 2 ∷ 2 ∷ 2 ∷ 4 ∷ 6 ∷ []) ∷ (28 ∷ 0 ∷ 2 ∷ 2 ∷ []) ∷ (18 ∷ 0 ∷ 18446744073709551614 ∷ []) ∷ [])) 64 gives leaves (answer 3 2 0) (fresh_from 0 64)
    -- rule 4 op 14
    ∷ to_check (nodes ((2 ∷ 0 ∷ 0 ∷ 0 ∷ 6 ∷ 0 ∷ 2 ∷ 2 ∷ 2 ∷ 4 ∷ 6 ∷ []) ∷ (2 ∷ 0 ∷ 0 ∷ 0 ∷ 6 ∷ 2 ∷ 2 ∷ 2 ∷ 2 ∷ 4 ∷ 6 ∷ []) ∷ (28 ∷ 0 ∷ 4 ∷ []) ∷ (18 ∷ 0 ∷ 18446744073709551614 ∷ []) ∷ [])) 64 gives leaves (answer 4 2 0) (fresh_from 0 64)
    -- rule 6 op 14
    ∷ to_check (nodes ((2 ∷ 0 ∷ 0 ∷ 0 ∷ 6 ∷ 0 ∷ 2 ∷ 2 ∷ 2 ∷ 4 ∷ 6 ∷ []) ∷ (2 ∷ 0 ∷ 0 ∷ 0 ∷ 4 ∷ 2 ∷ 2 ∷ 2 ∷ 2 ∷ 4 ∷ 6 ∷ []) ∷ (28 ∷ 0 ∷ 2 ∷ []) ∷ [])) 64 gives leaves (answer 6 2 0) (fresh_from 0 64)
    -- rule 6 op 14
    ∷ to_check (nodes ((2 ∷ 0 ∷ 0 ∷ 0 ∷ 0 ∷ 0 ∷ 2 ∷ 2 ∷ 2 ∷ 4 ∷ 6 ∷ []) ∷ (2 ∷ 0 ∷ 0 ∷ 0 ∷ 0 ∷ 2 ∷ 2 ∷ 2 ∷ 2 ∷ 4 ∷ 6 ∷ []) ∷ (28 ∷ 0 ∷ 2 ∷ []) ∷ (0 ∷ 10 ∷ []) ∷ [])) 64 gives leaves (answer 6 2 0) (fresh_from 0 64)
    -- rule 8 op 14
    ∷ to_check (nodes ((2 ∷ 0 ∷ 0 ∷ 0 ∷ 6 ∷ 0 ∷ 2 ∷ 2 ∷ 2 ∷ 4 ∷ 6 ∷ []) ∷ (2 ∷ 0 ∷ 0 ∷ 0 ∷ 6 ∷ 2 ∷ 2 ∷ 2 ∷ 2 ∷ 4 ∷ 4 ∷ []) ∷ (28 ∷ 0 ∷ 2 ∷ []) ∷ [])) 64 gives leaves (answer 8 2 0) (fresh_from 0 64)
    -- rule 9 op 14
    ∷ to_check (nodes ((2 ∷ 0 ∷ 0 ∷ 0 ∷ 6 ∷ 0 ∷ 2 ∷ 2 ∷ 2 ∷ 4 ∷ 6 ∷ []) ∷ (2 ∷ 0 ∷ 0 ∷ 0 ∷ 6 ∷ 2 ∷ 4 ∷ 2 ∷ 2 ∷ 4 ∷ 6 ∷ []) ∷ (28 ∷ 0 ∷ 2 ∷ []) ∷ [])) 64 gives leaves (answer 9 2 0) (fresh_from 0 64)
    -- rule 3 op 15
    ∷ to_check (nodes ((2 ∷ 0 ∷ 0 ∷ 0 ∷ 6 ∷ 0 ∷ 2 ∷ 2 ∷ 2 ∷ 4 ∷ 6 ∷ []) ∷ (2 ∷ 0 ∷ 0 ∷ 0 ∷ 6 ∷ 2 ∷ 2 ∷ 2 ∷ 2 ∷ 4 ∷ 6 ∷ []) ∷ (30 ∷ 0 ∷ 2 ∷ 0 ∷ 0 ∷ 0 ∷ 0 ∷ 0 ∷ 0 ∷ 0 ∷ 0 ∷ 0 ∷ 0 ∷ 0 ∷ 0 ∷ 0 ∷ 18446744073709551615 ∷ []) ∷ [])) 64 gives leaves (answer 3 2 0) (fresh_from 0 64)
    -- rule 4 op 15
    ∷ to_check (nodes ((2 ∷ 0 ∷ 0 ∷ 0 ∷ 6 ∷ 0 ∷ 2 ∷ 2 ∷ 2 ∷ 4 ∷ 6 ∷ []) ∷ (2 ∷ 0 ∷ 0 ∷ 0 ∷ 6 ∷ 2 ∷ 2 ∷ 2 ∷ 2 ∷ 4 ∷ 6 ∷ []) ∷ (30 ∷ 0 ∷ 1 ∷ []) ∷ [])) 64 gives leaves (answer 4 2 0) (fresh_from 0 64)
    -- rule 6 op 15
    ∷ to_check (nodes ((2 ∷ 0 ∷ 0 ∷ 0 ∷ 6 ∷ 0 ∷ 2 ∷ 2 ∷ 2 ∷ 4 ∷ 6 ∷ []) ∷ (2 ∷ 0 ∷ 0 ∷ 0 ∷ 0 ∷ 2 ∷ 2 ∷ 2 ∷ 2 ∷ 4 ∷ 6 ∷ []) ∷ (30 ∷ 0 ∷ 2 ∷ []) ∷ [])) 64 gives leaves (answer 6 2 0) (fresh_from 0 64)
    -- rule 8 op 15
    ∷ to_check (nodes ((2 ∷ 0 ∷ 0 ∷ 0 ∷ 6 ∷ 0 ∷ 2 ∷ 2 ∷ 2 ∷ 4 ∷ 6 ∷ []) ∷ (2 ∷ 0 ∷ 0 ∷ 0 ∷ 6 ∷ 2 ∷ 2 ∷ 2 ∷ 2 ∷ 4 ∷ 2 ∷ 4 ∷ []) ∷ (30 ∷ 0 ∷ 2 ∷ []) ∷ (18 ∷ 0 ∷ 18446744073709551614 ∷ []) ∷ [])) 64 gives leaves (answer 8 2 0) (fresh_from 0 64)
    -- rule 9 op 15
    ∷ to_check (nodes ((2 ∷ 0 ∷ 0 ∷ 0 ∷ 6 ∷ 0 ∷ 2 ∷ 2 ∷ 2 ∷ 4 ∷ 6 ∷ []) ∷ (2 ∷ 0 ∷ 0 ∷ 0 ∷ 6 ∷ 2 ∷ 4 ∷ 2 ∷ 2 ∷ 4 ∷ 6 ∷ []) ∷ (30 ∷ 0 ∷ 2 ∷ []) ∷ [])) 64 gives leaves (answer 9 2 0) (fresh_from 0 64)
    -- rule 2 op 16
    ∷ to_check (nodes ((2 ∷ 0 ∷ 0 ∷ 0 ∷ 0 ∷ 0 ∷ 2 ∷ 2 ∷ 2 ∷ 4 ∷ 6 ∷ []) ∷ (2 ∷ 0 ∷ 0 ∷ 0 ∷ 0 ∷ 2 ∷ 2 ∷ 2 ∷ 2 ∷ 4 ∷ 6 ∷ []) ∷ (48 ∷ 0 ∷ 2 ∷ []) ∷ [])) 64 gives leaves (answer 2 2 0) (fresh_from 0 64)
    -- rule 3 op 16
    ∷ to_check (nodes ((2 ∷ 0 ∷ 0 ∷ 0 ∷ 0 ∷ 0 ∷ 2 ∷ 2 ∷ 2 ∷ 4 ∷ 6 ∷ []) ∷ (2 ∷ 0 ∷ 0 ∷ 0 ∷ 0 ∷ 2 ∷ 2 ∷ 2 ∷ 2 ∷ 4 ∷ 6 ∷ []) ∷ (32 ∷ 0 ∷ 2 ∷ 0 ∷ 0 ∷ 0 ∷ 0 ∷ 0 ∷ 0 ∷ 0 ∷ 0 ∷ 0 ∷ 0 ∷ 0 ∷ 0 ∷ 0 ∷ 18446744073709551615 ∷ []) ∷ [])) 64 gives leaves (answer 3 2 0) (fresh_from 0 64)
    -- rule 4 op 16
    ∷ to_check (nodes ((2 ∷ 0 ∷ 0 ∷ 0 ∷ 0 ∷ 0 ∷ 2 ∷ 2 ∷ 2 ∷ 4 ∷ 6 ∷ []) ∷ (2 ∷ 0 ∷ 0 ∷ 0 ∷ 0 ∷ 2 ∷ 2 ∷ 2 ∷ 2 ∷ 4 ∷ 6 ∷ []) ∷ (32 ∷ 0 ∷ 18446744073709551614 ∷ []) ∷ (0 ∷ 0 ∷ 0 ∷ 0 ∷ 2 ∷ 6 ∷ []) ∷ [])) 64 gives leaves (answer 4 2 0) (fresh_from 0 64)
    -- rule 6 op 16
    ∷ to_check (nodes ((2 ∷ 0 ∷ 0 ∷ 0 ∷ 0 ∷ 0 ∷ 2 ∷ 2 ∷ 2 ∷ 4 ∷ 6 ∷ []) ∷ (2 ∷ 0 ∷ 0 ∷ 0 ∷ 2 ∷ 2 ∷ 2 ∷ 2 ∷ 2 ∷ 4 ∷ 6 ∷ []) ∷ (32 ∷ 0 ∷ 2 ∷ []) ∷ (18 ∷ 0 ∷ 18446744073709551614 ∷ []) ∷ [])) 64 gives leaves (answer 6 2 0) (fresh_from 0 64)
    -- rule 8 op 16
    ∷ to_check (nodes ((2 ∷ 0 ∷ 0 ∷ 0 ∷ 0 ∷ 0 ∷ 2 ∷ 2 ∷ 2 ∷ 4 ∷ 6 ∷ []) ∷ (2 ∷ 0 ∷ 0 ∷ 0 ∷ 0 ∷ 2 ∷ 2 ∷ 2 ∷ 2 ∷ 4 ∷ 2 ∷ 4 ∷ []) ∷ (32 ∷ 0 ∷ 2 ∷ []) ∷ (0 ∷ 0 ∷ 0 ∷ 0 ∷ 2 ∷ 6 ∷ []) ∷ [])) 64 gives leaves (answer 8 2 0) (fresh_from 0 64)
    -- rule 9 op 16
    ∷ to_check (nodes ((2 ∷ 0 ∷ 0 ∷ 0 ∷ 0 ∷ 0 ∷ 2 ∷ 2 ∷ 2 ∷ 4 ∷ 6 ∷ []) ∷ (2 ∷ 0 ∷ 0 ∷ 0 ∷ 0 ∷ 2 ∷ 4 ∷ 2 ∷ 2 ∷ 4 ∷ 6 ∷ []) ∷ (32 ∷ 0 ∷ 2 ∷ []) ∷ [])) 64 gives leaves (answer 9 2 0) (fresh_from 0 64)
    -- rule 2 op 17
    ∷ to_check (nodes ((2 ∷ 0 ∷ 0 ∷ 0 ∷ 0 ∷ 0 ∷ 2 ∷ 2 ∷ 2 ∷ 4 ∷ 6 ∷ []) ∷ (2 ∷ 0 ∷ 0 ∷ 0 ∷ 0 ∷ 2 ∷ 2 ∷ 2 ∷ 2 ∷ 4 ∷ 6 ∷ []) ∷ (48 ∷ 0 ∷ 2 ∷ []) ∷ (18 ∷ 0 ∷ 18446744073709551614 ∷ []) ∷ [])) 64 gives leaves (answer 2 2 0) (fresh_from 0 64)
    -- rule 3 op 17
    ∷ to_check (nodes ((2 ∷ 0 ∷ 0 ∷ 0 ∷ 0 ∷ 0 ∷ 2 ∷ 2 ∷ 2 ∷ 4 ∷ 6 ∷ []) ∷ (2 ∷ 0 ∷ 0 ∷ 0 ∷ 0 ∷ 2 ∷ 2 ∷ 2 ∷ 2 ∷ 4 ∷ 6 ∷ []) ∷ (34 ∷ 0 ∷ 2 ∷ 0 ∷ 0 ∷ 0 ∷ 0 ∷ 0 ∷ 0 ∷ 0 ∷ 0 ∷ 0 ∷ 0 ∷ 0 ∷ 0 ∷ 0 ∷ 18446744073709551615 ∷ []) ∷ [])) 64 gives leaves (answer 3 2 0) (fresh_from 0 64)
    -- rule 4 op 17
    ∷ to_check (nodes ((2 ∷ 0 ∷ 0 ∷ 0 ∷ 0 ∷ 0 ∷ 2 ∷ 2 ∷ 2 ∷ 4 ∷ 6 ∷ []) ∷ (2 ∷ 0 ∷ 0 ∷ 0 ∷ 0 ∷ 2 ∷ 2 ∷ 2 ∷ 2 ∷ 4 ∷ 6 ∷ []) ∷ (34 ∷ 0 ∷ 18446744073709551614 ∷ []) ∷ (18 ∷ 0 ∷ 18446744073709551614 ∷ []) ∷ [])) 64 gives leaves (answer 4 2 0) (fresh_from 0 64)
    -- rule 6 op 17
    ∷ to_check (nodes ((2 ∷ 0 ∷ 0 ∷ 0 ∷ 6 ∷ 0 ∷ 2 ∷ 2 ∷ 2 ∷ 4 ∷ 6 ∷ []) ∷ (2 ∷ 0 ∷ 0 ∷ 0 ∷ 6 ∷ 2 ∷ 2 ∷ 2 ∷ 2 ∷ 4 ∷ 6 ∷ []) ∷ (34 ∷ 0 ∷ 2 ∷ []) ∷ [])) 64 gives leaves (answer 6 2 0) (fresh_from 0 64)
    -- rule 8 op 17
    ∷ to_check (nodes ((2 ∷ 0 ∷ 0 ∷ 0 ∷ 0 ∷ 0 ∷ 2 ∷ 2 ∷ 2 ∷ 4 ∷ 6 ∷ []) ∷ (2 ∷ 0 ∷ 0 ∷ 0 ∷ 0 ∷ 2 ∷ 2 ∷ 2 ∷ 2 ∷ 4 ∷ 4 ∷ []) ∷ (34 ∷ 0 ∷ 2 ∷ []) ∷ (198 ∷ []) ∷ [])) 64 gives leaves (answer 8 2 0) (fresh_from 0 64)
    -- rule 9 op 17
    ∷ to_check (nodes ((2 ∷ 0 ∷ 0 ∷ 0 ∷ 0 ∷ 0 ∷ 2 ∷ 2 ∷ 2 ∷ 4 ∷ 6 ∷ []) ∷ (2 ∷ 0 ∷ 0 ∷ 0 ∷ 0 ∷ 2 ∷ 4 ∷ 2 ∷ 2 ∷ 4 ∷ 6 ∷ []) ∷ (34 ∷ 0 ∷ 2 ∷ []) ∷ (18 ∷ 0 ∷ 18446744073709551614 ∷ []) ∷ [])) 64 gives leaves (answer 9 2 0) (fresh_from 0 64)
    -- rule 2 op 18
    ∷ to_check (nodes ((2 ∷ 0 ∷ 0 ∷ 0 ∷ 0 ∷ 0 ∷ 2 ∷ 2 ∷ 2 ∷ 4 ∷ 6 ∷ []) ∷ (2 ∷ 0 ∷ 0 ∷ 0 ∷ 6 ∷ 2 ∷ 2 ∷ 2 ∷ 2 ∷ 4 ∷ 6 ∷ []) ∷ (2 ∷ 0 ∷ 0 ∷ 0 ∷ 6 ∷ 4 ∷ 2 ∷ 2 ∷ 2 ∷ 4 ∷ 6 ∷ []) ∷ (1 ∷ 0 ∷ 2 ∷ 4 ∷ []) ∷ (18 ∷ 0 ∷ 18446744073709551614 ∷ []) ∷ [])) 64 gives leaves (answer 2 3 0) (fresh_from 0 64)
    -- last of 256 refused
    ∷ to_unpack_check ((128 ∷ 2 ∷ []) ++ times 255 (0 ∷ 2 ∷ 18 ∷ []) ++ (20 ∷ 254 ∷ 3 ∷ 2 ∷ [])) gives number 262399
    ∷ []

pub table07_agrees : Agree table07
unfolding everything
table07_agrees = refl
