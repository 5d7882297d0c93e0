-- Written by tests/model/tables.py: change that script or cases.py, never this file.
use mathlib.Core.Path.{refl}
use mathlib.Core.List.{List, [], ◌∷◌, ◌++◌}
use Rattle.guarantees.proofs.Everything.{everything}
use Rattle.agreement.specs.Cases.{words, nodes, times, fresh_from, to_check, leaves, answer, Case, ◌gives◌, Agree}

abbrev pub table12 : List Case
table12 =
    -- edge op 3 {11: 4, 12: 4294967296}
    to_check (nodes ((2 ∷ 0 ∷ 0 ∷ 0 ∷ 6 ∷ 0 ∷ 2 ∷ 2 ∷ 2 ∷ 4 ∷ 6 ∷ []) ∷ (6 ∷ 0 ∷ 0 ∷ 0 ∷ 0 ∷ 0 ∷ 0 ∷ 0 ∷ 0 ∷ 2 ∷ 0 ∷ 8 ∷ 8589934592 ∷ []) ∷ [])) 40 gives leaves (answer 7 1 0) (fresh_from 0 40)
    -- edge op 0 {4: 21}
    ∷ to_check (nodes ((0 ∷ 0 ∷ 0 ∷ 0 ∷ 42 ∷ 10 ∷ []) ∷ [])) 40 gives leaves (answer 5 0 0) (fresh_from 0 40)
    -- edge op 23 {5: 3}
    ∷ to_check (nodes ((2 ∷ 0 ∷ 0 ∷ 0 ∷ 6 ∷ 0 ∷ 2 ∷ 2 ∷ 2 ∷ 4 ∷ 6 ∷ []) ∷ (2 ∷ 0 ∷ 0 ∷ 0 ∷ 6 ∷ 2 ∷ 2 ∷ 2 ∷ 2 ∷ 4 ∷ 6 ∷ []) ∷ (2 ∷ 0 ∷ 0 ∷ 0 ∷ 6 ∷ 4 ∷ 2 ∷ 2 ∷ 2 ∷ 4 ∷ 6 ∷ []) ∷ (46 ∷ 0 ∷ 2 ∷ 4 ∷ 0 ∷ 6 ∷ []) ∷ [])) 40 gives leaves (answer 0 0 0) (words (times 3 (6 ∷ 2 ∷ 2 ∷ 2 ∷ 4 ∷ 6 ∷ 0 ∷ 0 ∷ []) ++ (6 ∷ 2 ∷ 2 ∷ 2 ∷ 6 ∷ 4 ∷ 6 ∷ 0 ∷ [])) ++ fresh_from 32 8)
    -- edge op 4 {10: -2147483647}
    ∷ to_check (nodes ((2 ∷ 0 ∷ 0 ∷ 0 ∷ 6 ∷ 0 ∷ 2 ∷ 2 ∷ 2 ∷ 4 ∷ 6 ∷ []) ∷ (8 ∷ 0 ∷ 0 ∷ 0 ∷ 0 ∷ 0 ∷ 0 ∷ 0 ∷ 0 ∷ 12 ∷ 4294967293 ∷ []) ∷ [])) 40 gives leaves (answer 7 1 0) (fresh_from 0 40)
    -- edge op 4 {12: 20}
    ∷ to_check (nodes ((2 ∷ 0 ∷ 0 ∷ 0 ∷ 6 ∷ 0 ∷ 2 ∷ 2 ∷ 2 ∷ 4 ∷ 6 ∷ []) ∷ (8 ∷ 0 ∷ 0 ∷ 0 ∷ 0 ∷ 0 ∷ 0 ∷ 0 ∷ 0 ∷ 12 ∷ 0 ∷ 0 ∷ 40 ∷ []) ∷ [])) 40 gives leaves (answer 7 1 0) (fresh_from 0 40)
    -- edge op 23 {5: 2147483647}
    ∷ to_check (nodes ((2 ∷ 0 ∷ 0 ∷ 0 ∷ 6 ∷ 0 ∷ 2 ∷ 2 ∷ 2 ∷ 4 ∷ 6 ∷ []) ∷ (2 ∷ 0 ∷ 0 ∷ 0 ∷ 6 ∷ 2 ∷ 2 ∷ 2 ∷ 2 ∷ 4 ∷ 6 ∷ []) ∷ (2 ∷ 0 ∷ 0 ∷ 0 ∷ 6 ∷ 4 ∷ 2 ∷ 2 ∷ 2 ∷ 4 ∷ 6 ∷ []) ∷ (46 ∷ 0 ∷ 2 ∷ 4 ∷ 0 ∷ 4294967294 ∷ []) ∷ [])) 40 gives leaves (answer 7 3 0) (fresh_from 0 40)
    -- edge op 2 {10: -2147483649}
    ∷ to_check (nodes ((2 ∷ 0 ∷ 0 ∷ 0 ∷ 6 ∷ 0 ∷ 2 ∷ 2 ∷ 2 ∷ 4 ∷ 6 ∷ []) ∷ (4 ∷ 0 ∷ 0 ∷ 0 ∷ 0 ∷ 0 ∷ 0 ∷ 0 ∷ 0 ∷ 2 ∷ 4294967297 ∷ []) ∷ [])) 40 gives leaves (answer 7 1 0) (fresh_from 0 40)
    -- edge op 5 {9: 17}
    ∷ to_check (nodes ((2 ∷ 0 ∷ 0 ∷ 0 ∷ 6 ∷ 0 ∷ 2 ∷ 2 ∷ 2 ∷ 2 ∷ 6 ∷ []) ∷ (10 ∷ 0 ∷ 0 ∷ 0 ∷ 0 ∷ 0 ∷ 0 ∷ 0 ∷ 0 ∷ 34 ∷ 6 ∷ []) ∷ [])) 40 gives leaves (answer 0 0 0) (words (6 ∷ 2 ∷ 2 ∷ 2 ∷ 2 ∷ 6 ∷ 0 ∷ 0 ∷ 6 ∷ 2 ∷ 2 ∷ 2 ∷ 34 ∷ 6 ∷ 0 ∷ 0 ∷ []) ++ fresh_from 16 24)
    -- edge op 5 {9: 9223372036854775807}
    ∷ to_check (nodes ((2 ∷ 0 ∷ 0 ∷ 0 ∷ 6 ∷ 0 ∷ 2 ∷ 2 ∷ 2 ∷ 2 ∷ 6 ∷ []) ∷ (10 ∷ 0 ∷ 0 ∷ 0 ∷ 0 ∷ 0 ∷ 0 ∷ 0 ∷ 0 ∷ 18446744073709551614 ∷ 6 ∷ []) ∷ [])) 40 gives leaves (answer 7 1 0) (fresh_from 0 40)
    -- edge op 2 {12: 1048577}
    ∷ to_check (nodes ((2 ∷ 0 ∷ 0 ∷ 0 ∷ 6 ∷ 0 ∷ 2 ∷ 2 ∷ 2 ∷ 4 ∷ 6 ∷ []) ∷ (4 ∷ 0 ∷ 0 ∷ 0 ∷ 0 ∷ 0 ∷ 0 ∷ 0 ∷ 0 ∷ 2 ∷ 0 ∷ 0 ∷ 2097154 ∷ []) ∷ [])) 40 gives leaves (answer 7 1 0) (fresh_from 0 40)
    -- edge op 4 {2: -1}
    ∷ to_check (nodes ((2 ∷ 0 ∷ 0 ∷ 0 ∷ 6 ∷ 0 ∷ 2 ∷ 2 ∷ 2 ∷ 4 ∷ 6 ∷ []) ∷ (8 ∷ 0 ∷ 1 ∷ 0 ∷ 0 ∷ 0 ∷ 0 ∷ 0 ∷ 0 ∷ 12 ∷ []) ∷ [])) 40 gives leaves (answer 3 1 0) (fresh_from 0 40)
    -- edge op 5 {10: 2147483648}
    ∷ to_check (nodes ((2 ∷ 0 ∷ 0 ∷ 0 ∷ 6 ∷ 0 ∷ 2 ∷ 2 ∷ 2 ∷ 2 ∷ 6 ∷ []) ∷ (10 ∷ 0 ∷ 0 ∷ 0 ∷ 0 ∷ 0 ∷ 0 ∷ 0 ∷ 0 ∷ 8 ∷ 4294967296 ∷ []) ∷ [])) 40 gives leaves (answer 7 1 0) (fresh_from 0 40)
    -- edge op 6 {12: -4294967296}
    ∷ to_check (nodes ((2 ∷ 0 ∷ 0 ∷ 0 ∷ 6 ∷ 0 ∷ 2 ∷ 2 ∷ 2 ∷ 4 ∷ 6 ∷ []) ∷ (12 ∷ 0 ∷ 0 ∷ 0 ∷ 0 ∷ 0 ∷ 0 ∷ 0 ∷ 0 ∷ 6 ∷ 10 ∷ 0 ∷ 8589934591 ∷ 2 ∷ 4 ∷ []) ∷ [])) 40 gives leaves (answer 7 1 0) (fresh_from 0 40)
    -- edge op 8 {4: -2147483649}
    ∷ to_check (nodes ((2 ∷ 0 ∷ 0 ∷ 0 ∷ 6 ∷ 0 ∷ 2 ∷ 2 ∷ 2 ∷ 4 ∷ 6 ∷ []) ∷ (16 ∷ 0 ∷ 0 ∷ 0 ∷ 4294967297 ∷ []) ∷ [])) 40 gives leaves (answer 5 1 0) (fresh_from 0 40)
    -- edge op 4 {9: -1}
    ∷ to_check (nodes ((2 ∷ 0 ∷ 0 ∷ 0 ∷ 6 ∷ 0 ∷ 2 ∷ 2 ∷ 2 ∷ 4 ∷ 6 ∷ []) ∷ (8 ∷ 0 ∷ 0 ∷ 0 ∷ 0 ∷ 0 ∷ 0 ∷ 0 ∷ 0 ∷ 1 ∷ []) ∷ [])) 40 gives leaves (answer 7 1 0) (fresh_from 0 40)
    -- edge op 19 {12: 16, 11: -32768}
    ∷ to_check (nodes ((2 ∷ 0 ∷ 0 ∷ 0 ∷ 6 ∷ 0 ∷ 2 ∷ 2 ∷ 2 ∷ 4 ∷ 6 ∷ []) ∷ (38 ∷ 0 ∷ 0 ∷ 0 ∷ 0 ∷ 0 ∷ 0 ∷ 0 ∷ 0 ∷ 2 ∷ 0 ∷ 65535 ∷ 32 ∷ []) ∷ [])) 40 gives leaves (answer 7 1 0) (fresh_from 0 40)
    -- edge op 7 {12: -2147483647, 10: -2147483649}
    ∷ to_check (nodes ((2 ∷ 0 ∷ 0 ∷ 0 ∷ 6 ∷ 0 ∷ 2 ∷ 2 ∷ 2 ∷ 4 ∷ 6 ∷ []) ∷ (14 ∷ 0 ∷ 0 ∷ 0 ∷ 0 ∷ 0 ∷ 0 ∷ 0 ∷ 0 ∷ 2 ∷ 4294967297 ∷ 0 ∷ 4294967293 ∷ 2 ∷ 2 ∷ []) ∷ [])) 40 gives leaves (answer 7 1 0) (fresh_from 0 40)
    -- edge op 1 {11: 24}
    ∷ to_check (nodes ((2 ∷ 0 ∷ 0 ∷ 0 ∷ 6 ∷ 0 ∷ 2 ∷ 7 ∷ 20 ∷ 4 ∷ 6 ∷ 48 ∷ []) ∷ [])) 40 gives leaves (answer 0 0 0) (words (6 ∷ 2 ∷ 7 ∷ 20 ∷ 4 ∷ 6 ∷ 48 ∷ 0 ∷ []) ++ fresh_from 8 32)
    -- edge op 0 {3: -4294967296}
    ∷ to_check (nodes ((0 ∷ 0 ∷ 0 ∷ 8589934591 ∷ 4 ∷ 10 ∷ []) ∷ [])) 40 gives leaves (answer 3 0 0) (fresh_from 0 40)
    -- edge op 8 {4: 15}
    ∷ to_check (nodes ((2 ∷ 0 ∷ 0 ∷ 0 ∷ 6 ∷ 0 ∷ 2 ∷ 2 ∷ 2 ∷ 4 ∷ 6 ∷ []) ∷ (16 ∷ 0 ∷ 0 ∷ 0 ∷ 30 ∷ []) ∷ [])) 40 gives leaves (answer 5 1 0) (fresh_from 0 40)
    -- edge op 8 {4: 20}
    ∷ to_check (nodes ((2 ∷ 0 ∷ 0 ∷ 0 ∷ 6 ∷ 0 ∷ 2 ∷ 2 ∷ 2 ∷ 4 ∷ 6 ∷ []) ∷ (16 ∷ 0 ∷ 0 ∷ 0 ∷ 40 ∷ []) ∷ [])) 40 gives leaves (answer 5 1 0) (fresh_from 0 40)
    -- edge op 20 {6: 255}
    ∷ to_check (nodes ((2 ∷ 0 ∷ 0 ∷ 0 ∷ 6 ∷ 0 ∷ 2 ∷ 2 ∷ 2 ∷ 4 ∷ 6 ∷ []) ∷ (40 ∷ 0 ∷ 0 ∷ 0 ∷ 0 ∷ 0 ∷ 510 ∷ []) ∷ [])) 40 gives leaves (answer 0 0 0) (words (6 ∷ 2 ∷ 2 ∷ 2 ∷ 4 ∷ 6 ∷ 0 ∷ 0 ∷ 6 ∷ 510 ∷ 2 ∷ 2 ∷ 4 ∷ 6 ∷ 0 ∷ 0 ∷ []) ++ fresh_from 16 24)
    -- edge op 0 {5: 23}
    ∷ to_check (nodes ((0 ∷ 0 ∷ 0 ∷ 0 ∷ 4 ∷ 46 ∷ []) ∷ [])) 40 gives leaves (answer 0 0 0) (words (4 ∷ 0 ∷ 46 ∷ 46 ∷ 0 ∷ 0 ∷ 0 ∷ 0 ∷ []) ++ fresh_from 8 32)
    -- edge op 1 {7: 1, 5: 17}
    ∷ to_check (nodes ((2 ∷ 0 ∷ 0 ∷ 0 ∷ 6 ∷ 34 ∷ 2 ∷ 2 ∷ 20 ∷ 4 ∷ 6 ∷ []) ∷ [])) 40 gives leaves (answer 7 0 0) (fresh_from 0 40)
    -- edge op 9 {2: 4294967296}
    ∷ to_check (nodes ((2 ∷ 0 ∷ 0 ∷ 0 ∷ 6 ∷ 0 ∷ 2 ∷ 2 ∷ 2 ∷ 4 ∷ 6 ∷ []) ∷ (2 ∷ 0 ∷ 0 ∷ 0 ∷ 6 ∷ 2 ∷ 2 ∷ 2 ∷ 2 ∷ 4 ∷ 6 ∷ []) ∷ (18 ∷ 0 ∷ 8589934592 ∷ []) ∷ [])) 40 gives leaves (answer 4 2 0) (fresh_from 0 40)
    -- edge op 20 {6: 17}
    ∷ to_check (nodes ((2 ∷ 0 ∷ 0 ∷ 0 ∷ 6 ∷ 0 ∷ 2 ∷ 2 ∷ 2 ∷ 4 ∷ 6 ∷ []) ∷ (40 ∷ 0 ∷ 0 ∷ 0 ∷ 0 ∷ 0 ∷ 34 ∷ []) ∷ [])) 40 gives leaves (answer 0 0 0) (words (6 ∷ 2 ∷ 2 ∷ 2 ∷ 4 ∷ 6 ∷ 0 ∷ 0 ∷ 6 ∷ 34 ∷ 2 ∷ 2 ∷ 4 ∷ 6 ∷ 0 ∷ 0 ∷ []) ++ fresh_from 16 24)
    -- edge op 4 {10: 9223372036854775807}
    ∷ to_check (nodes ((2 ∷ 0 ∷ 0 ∷ 0 ∷ 6 ∷ 0 ∷ 2 ∷ 2 ∷ 2 ∷ 4 ∷ 6 ∷ []) ∷ (8 ∷ 0 ∷ 0 ∷ 0 ∷ 0 ∷ 0 ∷ 0 ∷ 0 ∷ 0 ∷ 12 ∷ 18446744073709551614 ∷ []) ∷ [])) 40 gives leaves (answer 7 1 0) (fresh_from 0 40)
    -- edge op 6 {10: 32766}
    ∷ to_check (nodes ((2 ∷ 0 ∷ 0 ∷ 0 ∷ 6 ∷ 0 ∷ 2 ∷ 2 ∷ 2 ∷ 4 ∷ 6 ∷ []) ∷ (12 ∷ 0 ∷ 0 ∷ 0 ∷ 0 ∷ 0 ∷ 0 ∷ 0 ∷ 0 ∷ 6 ∷ 65532 ∷ 0 ∷ 0 ∷ 2 ∷ 4 ∷ []) ∷ [])) 40 gives leaves (answer 0 0 0) (words (6 ∷ 2 ∷ 2 ∷ 2 ∷ 4 ∷ 6 ∷ 0 ∷ 0 ∷ 6 ∷ 2 ∷ 2 ∷ 2 ∷ 6 ∷ 65532 ∷ 0 ∷ 0 ∷ []) ++ fresh_from 16 24)
    -- edge op 10 {2: 1048575}
    ∷ to_check (nodes ((2 ∷ 0 ∷ 0 ∷ 0 ∷ 6 ∷ 0 ∷ 2 ∷ 2 ∷ 2 ∷ 4 ∷ 6 ∷ []) ∷ (2 ∷ 0 ∷ 0 ∷ 0 ∷ 6 ∷ 2 ∷ 2 ∷ 2 ∷ 2 ∷ 4 ∷ 6 ∷ []) ∷ (20 ∷ 0 ∷ 2097150 ∷ []) ∷ [])) 40 gives leaves (answer 4 2 0) (fresh_from 0 40)
    -- edge op 0 {4: 20}
    ∷ to_check (nodes ((0 ∷ 0 ∷ 0 ∷ 0 ∷ 40 ∷ 10 ∷ []) ∷ [])) 40 gives leaves (answer 5 0 0) (fresh_from 0 40)
    -- edge op 19 {10: 2147483647, 9: -1}
    ∷ to_check (nodes ((2 ∷ 0 ∷ 0 ∷ 0 ∷ 6 ∷ 0 ∷ 2 ∷ 2 ∷ 2 ∷ 4 ∷ 6 ∷ []) ∷ (38 ∷ 0 ∷ 0 ∷ 0 ∷ 0 ∷ 0 ∷ 0 ∷ 0 ∷ 0 ∷ 1 ∷ 4294967294 ∷ []) ∷ [])) 40 gives leaves (answer 7 1 0) (fresh_from 0 40)
    -- edge op 5 {11: 1048575}
    ∷ to_check (nodes ((2 ∷ 0 ∷ 0 ∷ 0 ∷ 6 ∷ 0 ∷ 2 ∷ 2 ∷ 2 ∷ 2 ∷ 6 ∷ []) ∷ (10 ∷ 0 ∷ 0 ∷ 0 ∷ 0 ∷ 0 ∷ 0 ∷ 0 ∷ 0 ∷ 8 ∷ 6 ∷ 2097150 ∷ []) ∷ [])) 40 gives leaves (answer 8 1 0) (fresh_from 0 40)
    -- edge op 11 {2: 0, 1: 23}
    ∷ to_check (nodes ((2 ∷ 0 ∷ 0 ∷ 0 ∷ 6 ∷ 0 ∷ 2 ∷ 2 ∷ 2 ∷ 4 ∷ 6 ∷ []) ∷ (2 ∷ 0 ∷ 0 ∷ 0 ∷ 6 ∷ 2 ∷ 2 ∷ 2 ∷ 2 ∷ 4 ∷ 6 ∷ []) ∷ (22 ∷ 46 ∷ []) ∷ [])) 40 gives leaves (answer 4 2 0) (fresh_from 0 40)
    -- edge op 4 {12: -32768}
    ∷ to_check (nodes ((2 ∷ 0 ∷ 0 ∷ 0 ∷ 6 ∷ 0 ∷ 2 ∷ 2 ∷ 2 ∷ 4 ∷ 6 ∷ []) ∷ (8 ∷ 0 ∷ 0 ∷ 0 ∷ 0 ∷ 0 ∷ 0 ∷ 0 ∷ 0 ∷ 12 ∷ 0 ∷ 0 ∷ 65535 ∷ []) ∷ [])) 40 gives leaves (answer 7 1 0) (fresh_from 0 40)
    -- edge op 3 {12: 2147483646, 11: 1048577}
    ∷ to_check (nodes ((2 ∷ 0 ∷ 0 ∷ 0 ∷ 6 ∷ 0 ∷ 2 ∷ 2 ∷ 2 ∷ 4 ∷ 6 ∷ []) ∷ (6 ∷ 0 ∷ 0 ∷ 0 ∷ 0 ∷ 0 ∷ 0 ∷ 0 ∷ 0 ∷ 2 ∷ 0 ∷ 2097154 ∷ 4294967292 ∷ []) ∷ [])) 40 gives leaves (answer 7 1 0) (fresh_from 0 40)
    -- edge op 12 {1: 20}
    ∷ to_check (nodes ((2 ∷ 0 ∷ 0 ∷ 0 ∷ 6 ∷ 0 ∷ 2 ∷ 2 ∷ 2 ∷ 4 ∷ 6 ∷ []) ∷ (2 ∷ 0 ∷ 0 ∷ 0 ∷ 6 ∷ 2 ∷ 2 ∷ 1 ∷ 1 ∷ 4 ∷ 6 ∷ []) ∷ (24 ∷ 40 ∷ 2 ∷ []) ∷ [])) 40 gives leaves (answer 4 2 0) (fresh_from 0 40)
    -- edge op 20 {6: 20}
    ∷ to_check (nodes ((2 ∷ 0 ∷ 0 ∷ 0 ∷ 6 ∷ 0 ∷ 2 ∷ 2 ∷ 2 ∷ 4 ∷ 6 ∷ []) ∷ (40 ∷ 0 ∷ 0 ∷ 0 ∷ 0 ∷ 0 ∷ 40 ∷ []) ∷ [])) 40 gives leaves (answer 0 0 0) (words (6 ∷ 2 ∷ 2 ∷ 2 ∷ 4 ∷ 6 ∷ 0 ∷ 0 ∷ 6 ∷ 40 ∷ 2 ∷ 2 ∷ 4 ∷ 6 ∷ 0 ∷ 0 ∷ []) ++ fresh_from 16 24)
    -- edge op 7 {13: 4294967296}
    ∷ to_check (nodes ((2 ∷ 0 ∷ 0 ∷ 0 ∷ 6 ∷ 0 ∷ 2 ∷ 2 ∷ 2 ∷ 4 ∷ 6 ∷ []) ∷ (14 ∷ 0 ∷ 0 ∷ 0 ∷ 0 ∷ 0 ∷ 0 ∷ 0 ∷ 0 ∷ 2 ∷ 4 ∷ 0 ∷ 0 ∷ 8589934592 ∷ 2 ∷ []) ∷ [])) 40 gives leaves (answer 7 1 0) (fresh_from 0 40)
    -- edge op 1 {8: 32766, 11: 1048577}
    ∷ to_check (nodes ((2 ∷ 0 ∷ 0 ∷ 0 ∷ 6 ∷ 0 ∷ 2 ∷ 7 ∷ 65532 ∷ 4 ∷ 6 ∷ 2097154 ∷ []) ∷ [])) 40 gives leaves (answer 7 0 0) (fresh_from 0 40)
    -- edge op 13 {1: 32766, 2: 0}
    ∷ to_check (nodes ((2 ∷ 0 ∷ 0 ∷ 0 ∷ 6 ∷ 0 ∷ 2 ∷ 2 ∷ 2 ∷ 4 ∷ 6 ∷ []) ∷ (2 ∷ 0 ∷ 0 ∷ 0 ∷ 6 ∷ 2 ∷ 2 ∷ 1 ∷ 1 ∷ 4 ∷ 6 ∷ []) ∷ (26 ∷ 65532 ∷ []) ∷ [])) 40 gives leaves (answer 4 2 0) (fresh_from 0 40)
    -- edge op 3 {9: 2}
    ∷ to_check (nodes ((2 ∷ 0 ∷ 0 ∷ 0 ∷ 6 ∷ 0 ∷ 2 ∷ 2 ∷ 2 ∷ 4 ∷ 6 ∷ []) ∷ (6 ∷ 0 ∷ 0 ∷ 0 ∷ 0 ∷ 0 ∷ 0 ∷ 0 ∷ 0 ∷ 4 ∷ []) ∷ [])) 40 gives leaves (answer 7 1 0) (fresh_from 0 40)
    -- edge op 20 {6: 1048577}
    ∷ to_check (nodes ((2 ∷ 0 ∷ 0 ∷ 0 ∷ 6 ∷ 0 ∷ 2 ∷ 2 ∷ 2 ∷ 4 ∷ 6 ∷ []) ∷ (40 ∷ 0 ∷ 0 ∷ 0 ∷ 0 ∷ 0 ∷ 2097154 ∷ []) ∷ [])) 40 gives leaves (answer 7 1 0) (fresh_from 0 40)
    -- edge op 5 {4: 32767, 10: 2147483648}
    ∷ to_check (nodes ((2 ∷ 0 ∷ 0 ∷ 0 ∷ 6 ∷ 0 ∷ 2 ∷ 2 ∷ 2 ∷ 2 ∷ 6 ∷ []) ∷ (10 ∷ 0 ∷ 0 ∷ 0 ∷ 65534 ∷ 0 ∷ 0 ∷ 0 ∷ 0 ∷ 8 ∷ 4294967296 ∷ []) ∷ [])) 40 gives leaves (answer 3 1 0) (fresh_from 0 40)
    -- edge op 14 {1: -32766}
    ∷ to_check (nodes ((2 ∷ 0 ∷ 0 ∷ 0 ∷ 6 ∷ 0 ∷ 2 ∷ 2 ∷ 2 ∷ 4 ∷ 6 ∷ []) ∷ (2 ∷ 0 ∷ 0 ∷ 0 ∷ 6 ∷ 2 ∷ 2 ∷ 2 ∷ 2 ∷ 4 ∷ 6 ∷ []) ∷ (28 ∷ 65531 ∷ 2 ∷ []) ∷ [])) 40 gives leaves (answer 4 2 0) (fresh_from 0 40)
    -- edge op 19 {5: 0}
    ∷ to_check (nodes ((2 ∷ 0 ∷ 0 ∷ 0 ∷ 6 ∷ 0 ∷ 2 ∷ 2 ∷ 2 ∷ 4 ∷ 6 ∷ []) ∷ (38 ∷ 0 ∷ 0 ∷ 0 ∷ 0 ∷ 0 ∷ 0 ∷ 0 ∷ 0 ∷ 2 ∷ []) ∷ [])) 40 gives leaves (answer 0 0 0) (words (6 ∷ 2 ∷ 2 ∷ 2 ∷ 4 ∷ 6 ∷ 0 ∷ 0 ∷ 6 ∷ 2 ∷ 4 ∷ 4 ∷ 2 ∷ 6 ∷ 0 ∷ 0 ∷ []) ++ fresh_from 16 24)
    -- edge op 2 {12: 2}
    ∷ to_check (nodes ((2 ∷ 0 ∷ 0 ∷ 0 ∷ 6 ∷ 0 ∷ 2 ∷ 2 ∷ 2 ∷ 4 ∷ 6 ∷ []) ∷ (4 ∷ 0 ∷ 0 ∷ 0 ∷ 0 ∷ 0 ∷ 0 ∷ 0 ∷ 0 ∷ 2 ∷ 0 ∷ 0 ∷ 4 ∷ []) ∷ [])) 40 gives leaves (answer 7 1 0) (fresh_from 0 40)
    -- edge op 2 {12: 16}
    ∷ to_check (nodes ((2 ∷ 0 ∷ 0 ∷ 0 ∷ 6 ∷ 0 ∷ 2 ∷ 2 ∷ 2 ∷ 4 ∷ 6 ∷ []) ∷ (4 ∷ 0 ∷ 0 ∷ 0 ∷ 0 ∷ 0 ∷ 0 ∷ 0 ∷ 0 ∷ 2 ∷ 0 ∷ 0 ∷ 32 ∷ []) ∷ [])) 40 gives leaves (answer 7 1 0) (fresh_from 0 40)
    -- edge op 15 {1: 2}
    ∷ to_check (nodes ((2 ∷ 0 ∷ 0 ∷ 0 ∷ 6 ∷ 0 ∷ 2 ∷ 2 ∷ 2 ∷ 4 ∷ 6 ∷ []) ∷ (2 ∷ 0 ∷ 0 ∷ 0 ∷ 6 ∷ 2 ∷ 2 ∷ 2 ∷ 2 ∷ 4 ∷ 6 ∷ []) ∷ (30 ∷ 4 ∷ 2 ∷ []) ∷ [])) 40 gives leaves (answer 4 2 0) (fresh_from 0 40)
    -- edge op 20 {6: 4294967296}
    ∷ to_check (nodes ((2 ∷ 0 ∷ 0 ∷ 0 ∷ 6 ∷ 0 ∷ 2 ∷ 2 ∷ 2 ∷ 4 ∷ 6 ∷ []) ∷ (40 ∷ 0 ∷ 0 ∷ 0 ∷ 0 ∷ 0 ∷ 8589934592 ∷ []) ∷ [])) 40 gives leaves (answer 7 1 0) (fresh_from 0 40)
    -- edge op 0 {4: 16}
    ∷ to_check (nodes ((0 ∷ 0 ∷ 0 ∷ 0 ∷ 32 ∷ 10 ∷ []) ∷ [])) 40 gives leaves (answer 5 0 0) (fresh_from 0 40)
    ∷ []

pub table12_agrees : Agree table12
unfolding everything
table12_agrees = refl
