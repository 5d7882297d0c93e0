-- Written by tests/model/tables.py: change that script or cases.py, never this file.
use mathlib.Core.Path.{refl}
use mathlib.Core.List.{List, [], ◌∷◌, ◌++◌}
use Rattle.guarantees.proofs.Everything.{everything}
use Rattle.agreement.specs.Cases.{words, nodes, times, fresh_from, to_check, leaves, answer, Case, ◌gives◌, Agree}

abbrev pub table13 : List Case
table13 =
    -- edge op 6 {13: 0}
    to_check (nodes ((2 ∷ 0 ∷ 0 ∷ 0 ∷ 6 ∷ 0 ∷ 2 ∷ 2 ∷ 2 ∷ 4 ∷ 6 ∷ []) ∷ (12 ∷ 0 ∷ 0 ∷ 0 ∷ 0 ∷ 0 ∷ 0 ∷ 0 ∷ 0 ∷ 6 ∷ 10 ∷ 0 ∷ 0 ∷ 0 ∷ 4 ∷ []) ∷ [])) 40 gives leaves (answer 0 0 0) (words (6 ∷ 2 ∷ 2 ∷ 2 ∷ 4 ∷ 6 ∷ 0 ∷ 0 ∷ 6 ∷ 2 ∷ 2 ∷ 2 ∷ 6 ∷ 10 ∷ 0 ∷ 0 ∷ []) ++ fresh_from 16 24)
    -- edge op 16 {8: 17, 2: -2147483648}
    ∷ to_check (nodes ((2 ∷ 0 ∷ 0 ∷ 0 ∷ 0 ∷ 0 ∷ 2 ∷ 2 ∷ 2 ∷ 4 ∷ 6 ∷ []) ∷ (2 ∷ 0 ∷ 0 ∷ 0 ∷ 0 ∷ 2 ∷ 2 ∷ 2 ∷ 2 ∷ 4 ∷ 6 ∷ []) ∷ (32 ∷ 0 ∷ 4294967295 ∷ 0 ∷ 0 ∷ 0 ∷ 0 ∷ 0 ∷ 34 ∷ []) ∷ [])) 40 gives leaves (answer 3 2 0) (fresh_from 0 40)
    -- edge op 7 {12: 256}
    ∷ to_check (nodes ((2 ∷ 0 ∷ 0 ∷ 0 ∷ 6 ∷ 0 ∷ 2 ∷ 2 ∷ 2 ∷ 4 ∷ 6 ∷ []) ∷ (14 ∷ 0 ∷ 0 ∷ 0 ∷ 0 ∷ 0 ∷ 0 ∷ 0 ∷ 0 ∷ 2 ∷ 4 ∷ 0 ∷ 512 ∷ 2 ∷ 2 ∷ []) ∷ [])) 40 gives leaves (answer 7 1 0) (fresh_from 0 40)
    -- edge op 23 {5: -1}
    ∷ to_check (nodes ((2 ∷ 0 ∷ 0 ∷ 0 ∷ 6 ∷ 0 ∷ 2 ∷ 2 ∷ 2 ∷ 4 ∷ 6 ∷ []) ∷ (2 ∷ 0 ∷ 0 ∷ 0 ∷ 6 ∷ 2 ∷ 2 ∷ 2 ∷ 2 ∷ 4 ∷ 6 ∷ []) ∷ (2 ∷ 0 ∷ 0 ∷ 0 ∷ 6 ∷ 4 ∷ 2 ∷ 2 ∷ 2 ∷ 4 ∷ 6 ∷ []) ∷ (46 ∷ 0 ∷ 2 ∷ 4 ∷ 0 ∷ 1 ∷ []) ∷ [])) 40 gives leaves (answer 7 3 0) (fresh_from 0 40)
    -- edge op 23 {5: 1048575}
    ∷ to_check (nodes ((2 ∷ 0 ∷ 0 ∷ 0 ∷ 6 ∷ 0 ∷ 2 ∷ 2 ∷ 2 ∷ 4 ∷ 6 ∷ []) ∷ (2 ∷ 0 ∷ 0 ∷ 0 ∷ 6 ∷ 2 ∷ 2 ∷ 2 ∷ 2 ∷ 4 ∷ 6 ∷ []) ∷ (2 ∷ 0 ∷ 0 ∷ 0 ∷ 6 ∷ 4 ∷ 2 ∷ 2 ∷ 2 ∷ 4 ∷ 6 ∷ []) ∷ (46 ∷ 0 ∷ 2 ∷ 4 ∷ 0 ∷ 2097150 ∷ []) ∷ [])) 40 gives leaves (answer 7 3 0) (fresh_from 0 40)
    -- edge op 17 {9: 24}
    ∷ to_check (nodes ((2 ∷ 0 ∷ 0 ∷ 0 ∷ 0 ∷ 0 ∷ 2 ∷ 2 ∷ 2 ∷ 4 ∷ 6 ∷ []) ∷ (2 ∷ 0 ∷ 0 ∷ 0 ∷ 0 ∷ 2 ∷ 2 ∷ 2 ∷ 2 ∷ 4 ∷ 6 ∷ []) ∷ (34 ∷ 0 ∷ 2 ∷ 0 ∷ 0 ∷ 0 ∷ 0 ∷ 0 ∷ 0 ∷ 48 ∷ []) ∷ [])) 40 gives leaves (answer 3 2 0) (fresh_from 0 40)
    -- edge op 2 {10: 16}
    ∷ to_check (nodes ((2 ∷ 0 ∷ 0 ∷ 0 ∷ 6 ∷ 0 ∷ 2 ∷ 2 ∷ 2 ∷ 4 ∷ 6 ∷ []) ∷ (4 ∷ 0 ∷ 0 ∷ 0 ∷ 0 ∷ 0 ∷ 0 ∷ 0 ∷ 0 ∷ 2 ∷ 32 ∷ []) ∷ [])) 40 gives leaves (answer 7 1 0) (fresh_from 0 40)
    -- edge op 4 {12: 254}
    ∷ to_check (nodes ((2 ∷ 0 ∷ 0 ∷ 0 ∷ 6 ∷ 0 ∷ 2 ∷ 2 ∷ 2 ∷ 4 ∷ 6 ∷ []) ∷ (8 ∷ 0 ∷ 0 ∷ 0 ∷ 0 ∷ 0 ∷ 0 ∷ 0 ∷ 0 ∷ 12 ∷ 0 ∷ 0 ∷ 508 ∷ []) ∷ [])) 40 gives leaves (answer 7 1 0) (fresh_from 0 40)
    -- edge op 3 {10: 15}
    ∷ to_check (nodes ((2 ∷ 0 ∷ 0 ∷ 0 ∷ 6 ∷ 0 ∷ 2 ∷ 2 ∷ 2 ∷ 4 ∷ 6 ∷ []) ∷ (6 ∷ 0 ∷ 0 ∷ 0 ∷ 0 ∷ 0 ∷ 0 ∷ 0 ∷ 0 ∷ 2 ∷ 30 ∷ []) ∷ [])) 40 gives leaves (answer 7 1 0) (fresh_from 0 40)
    -- edge op 18 {1: 0, 3: 255}
    ∷ to_check (nodes ((2 ∷ 0 ∷ 0 ∷ 0 ∷ 0 ∷ 0 ∷ 2 ∷ 2 ∷ 2 ∷ 4 ∷ 6 ∷ []) ∷ (2 ∷ 0 ∷ 0 ∷ 0 ∷ 6 ∷ 2 ∷ 2 ∷ 2 ∷ 2 ∷ 4 ∷ 6 ∷ []) ∷ (2 ∷ 0 ∷ 0 ∷ 0 ∷ 6 ∷ 4 ∷ 2 ∷ 2 ∷ 2 ∷ 4 ∷ 6 ∷ []) ∷ (36 ∷ 0 ∷ 2 ∷ 510 ∷ []) ∷ [])) 40 gives leaves (answer 4 3 0) (fresh_from 0 40)
    -- edge op 23 {5: 255}
    ∷ to_check (nodes ((2 ∷ 0 ∷ 0 ∷ 0 ∷ 6 ∷ 0 ∷ 2 ∷ 2 ∷ 2 ∷ 4 ∷ 6 ∷ []) ∷ (2 ∷ 0 ∷ 0 ∷ 0 ∷ 6 ∷ 2 ∷ 2 ∷ 2 ∷ 2 ∷ 4 ∷ 6 ∷ []) ∷ (2 ∷ 0 ∷ 0 ∷ 0 ∷ 6 ∷ 4 ∷ 2 ∷ 2 ∷ 2 ∷ 4 ∷ 6 ∷ []) ∷ (46 ∷ 0 ∷ 2 ∷ 4 ∷ 0 ∷ 510 ∷ []) ∷ [])) 40 gives leaves (answer 7 3 0) (fresh_from 0 40)
    -- edge op 19 {5: -32767, 11: 9223372036854775807}
    ∷ to_check (nodes ((2 ∷ 0 ∷ 0 ∷ 0 ∷ 6 ∷ 0 ∷ 2 ∷ 2 ∷ 2 ∷ 4 ∷ 6 ∷ []) ∷ (38 ∷ 0 ∷ 0 ∷ 0 ∷ 0 ∷ 65533 ∷ 0 ∷ 0 ∷ 0 ∷ 2 ∷ 0 ∷ 18446744073709551614 ∷ []) ∷ [])) 40 gives leaves (answer 7 1 0) (fresh_from 0 40)
    -- edge op 6 {9: 254}
    ∷ to_check (nodes ((2 ∷ 0 ∷ 0 ∷ 0 ∷ 6 ∷ 0 ∷ 2 ∷ 2 ∷ 2 ∷ 4 ∷ 6 ∷ []) ∷ (12 ∷ 0 ∷ 0 ∷ 0 ∷ 0 ∷ 0 ∷ 0 ∷ 0 ∷ 0 ∷ 508 ∷ 10 ∷ 0 ∷ 0 ∷ 2 ∷ 4 ∷ []) ∷ [])) 40 gives leaves (answer 0 0 0) (words (6 ∷ 2 ∷ 2 ∷ 2 ∷ 4 ∷ 6 ∷ 0 ∷ 0 ∷ 6 ∷ 2 ∷ 2 ∷ 2 ∷ 508 ∷ 10 ∷ 0 ∷ 0 ∷ []) ++ fresh_from 16 24)
    -- edge op 19 {11: 23}
    ∷ to_check (nodes ((2 ∷ 0 ∷ 0 ∷ 0 ∷ 6 ∷ 0 ∷ 2 ∷ 2 ∷ 2 ∷ 4 ∷ 6 ∷ []) ∷ (38 ∷ 0 ∷ 0 ∷ 0 ∷ 0 ∷ 0 ∷ 0 ∷ 0 ∷ 0 ∷ 2 ∷ 0 ∷ 46 ∷ []) ∷ [])) 40 gives leaves (answer 7 1 0) (fresh_from 0 40)
    -- edge op 19 {9: -9223372036854775808}
    ∷ to_check (nodes ((2 ∷ 0 ∷ 0 ∷ 0 ∷ 6 ∷ 0 ∷ 2 ∷ 2 ∷ 2 ∷ 4 ∷ 6 ∷ []) ∷ (38 ∷ 0 ∷ 0 ∷ 0 ∷ 0 ∷ 0 ∷ 0 ∷ 0 ∷ 0 ∷ 18446744073709551615 ∷ []) ∷ [])) 40 gives leaves (answer 7 1 0) (fresh_from 0 40)
    -- edge op 5 {11: 256}
    ∷ to_check (nodes ((2 ∷ 0 ∷ 0 ∷ 0 ∷ 6 ∷ 0 ∷ 2 ∷ 2 ∷ 2 ∷ 2 ∷ 6 ∷ []) ∷ (10 ∷ 0 ∷ 0 ∷ 0 ∷ 0 ∷ 0 ∷ 0 ∷ 0 ∷ 0 ∷ 8 ∷ 6 ∷ 512 ∷ []) ∷ [])) 40 gives leaves (answer 8 1 0) (fresh_from 0 40)
    -- edge op 1 {11: -2147483648}
    ∷ to_check (nodes ((2 ∷ 0 ∷ 0 ∷ 0 ∷ 6 ∷ 0 ∷ 2 ∷ 7 ∷ 20 ∷ 4 ∷ 6 ∷ 4294967295 ∷ []) ∷ [])) 40 gives leaves (answer 7 0 0) (fresh_from 0 40)
    -- edge op 20 {6: -9223372036854775808}
    ∷ to_check (nodes ((2 ∷ 0 ∷ 0 ∷ 0 ∷ 6 ∷ 0 ∷ 2 ∷ 2 ∷ 2 ∷ 4 ∷ 6 ∷ []) ∷ (40 ∷ 0 ∷ 0 ∷ 0 ∷ 0 ∷ 0 ∷ 18446744073709551615 ∷ []) ∷ [])) 40 gives leaves (answer 7 1 0) (fresh_from 0 40)
    -- edge op 23 {5: 4294967296}
    ∷ to_check (nodes ((2 ∷ 0 ∷ 0 ∷ 0 ∷ 6 ∷ 0 ∷ 2 ∷ 2 ∷ 2 ∷ 4 ∷ 6 ∷ []) ∷ (2 ∷ 0 ∷ 0 ∷ 0 ∷ 6 ∷ 2 ∷ 2 ∷ 2 ∷ 2 ∷ 4 ∷ 6 ∷ []) ∷ (2 ∷ 0 ∷ 0 ∷ 0 ∷ 6 ∷ 4 ∷ 2 ∷ 2 ∷ 2 ∷ 4 ∷ 6 ∷ []) ∷ (46 ∷ 0 ∷ 2 ∷ 4 ∷ 0 ∷ 8589934592 ∷ []) ∷ [])) 40 gives leaves (answer 7 3 0) (fresh_from 0 40)
    -- edge op 20 {3: -2147483649}
    ∷ to_check (nodes ((2 ∷ 0 ∷ 0 ∷ 0 ∷ 6 ∷ 0 ∷ 2 ∷ 2 ∷ 2 ∷ 4 ∷ 6 ∷ []) ∷ (40 ∷ 0 ∷ 0 ∷ 4294967297 ∷ 0 ∷ 0 ∷ 18 ∷ []) ∷ [])) 40 gives leaves (answer 3 1 0) (fresh_from 0 40)
    -- edge op 5 {11: -9223372036854775808}
    ∷ to_check (nodes ((2 ∷ 0 ∷ 0 ∷ 0 ∷ 6 ∷ 0 ∷ 2 ∷ 2 ∷ 2 ∷ 2 ∷ 6 ∷ []) ∷ (10 ∷ 0 ∷ 0 ∷ 0 ∷ 0 ∷ 0 ∷ 0 ∷ 0 ∷ 0 ∷ 8 ∷ 6 ∷ 18446744073709551615 ∷ []) ∷ [])) 40 gives leaves (answer 7 1 0) (fresh_from 0 40)
    -- edge op 21 {2: -32767}
    ∷ to_check (nodes ((2 ∷ 0 ∷ 0 ∷ 0 ∷ 6 ∷ 0 ∷ 2 ∷ 2 ∷ 2 ∷ 4 ∷ 6 ∷ []) ∷ (2 ∷ 0 ∷ 0 ∷ 0 ∷ 6 ∷ 2 ∷ 2 ∷ 2 ∷ 2 ∷ 4 ∷ 6 ∷ []) ∷ (42 ∷ 0 ∷ 65533 ∷ []) ∷ [])) 40 gives leaves (answer 4 2 0) (fresh_from 0 40)
    -- edge op 23 {5: 32768}
    ∷ to_check (nodes ((2 ∷ 0 ∷ 0 ∷ 0 ∷ 6 ∷ 0 ∷ 2 ∷ 2 ∷ 2 ∷ 4 ∷ 6 ∷ []) ∷ (2 ∷ 0 ∷ 0 ∷ 0 ∷ 6 ∷ 2 ∷ 2 ∷ 2 ∷ 2 ∷ 4 ∷ 6 ∷ []) ∷ (2 ∷ 0 ∷ 0 ∷ 0 ∷ 6 ∷ 4 ∷ 2 ∷ 2 ∷ 2 ∷ 4 ∷ 6 ∷ []) ∷ (46 ∷ 0 ∷ 2 ∷ 4 ∷ 0 ∷ 65536 ∷ []) ∷ [])) 40 gives leaves (answer 7 3 0) (fresh_from 0 40)
    -- edge op 3 {9: 4}
    ∷ to_check (nodes ((2 ∷ 0 ∷ 0 ∷ 0 ∷ 6 ∷ 0 ∷ 2 ∷ 2 ∷ 2 ∷ 4 ∷ 6 ∷ []) ∷ (6 ∷ 0 ∷ 0 ∷ 0 ∷ 0 ∷ 0 ∷ 0 ∷ 0 ∷ 0 ∷ 8 ∷ []) ∷ [])) 40 gives leaves (answer 7 1 0) (fresh_from 0 40)
    -- edge op 0 {5: 256}
    ∷ to_check (nodes ((0 ∷ 0 ∷ 0 ∷ 0 ∷ 4 ∷ 512 ∷ []) ∷ [])) 40 gives leaves (answer 0 0 0) (words (4 ∷ 0 ∷ 512 ∷ 512 ∷ 0 ∷ 0 ∷ 0 ∷ 0 ∷ []) ++ fresh_from 8 32)
    -- edge op 22 {5: 9223372036854775807, 1: -2147483649}
    ∷ to_check (nodes ((2 ∷ 0 ∷ 0 ∷ 0 ∷ 6 ∷ 0 ∷ 2 ∷ 2 ∷ 2 ∷ 4 ∷ 6 ∷ []) ∷ (44 ∷ 4294967297 ∷ 0 ∷ 0 ∷ 0 ∷ 18446744073709551614 ∷ []) ∷ [])) 40 gives leaves (answer 3 1 0) (fresh_from 0 40)
    -- edge op 6 {13: 24}
    ∷ to_check (nodes ((2 ∷ 0 ∷ 0 ∷ 0 ∷ 6 ∷ 0 ∷ 2 ∷ 2 ∷ 2 ∷ 4 ∷ 6 ∷ []) ∷ (12 ∷ 0 ∷ 0 ∷ 0 ∷ 0 ∷ 0 ∷ 0 ∷ 0 ∷ 0 ∷ 6 ∷ 10 ∷ 0 ∷ 0 ∷ 48 ∷ 4 ∷ []) ∷ [])) 40 gives leaves (answer 8 1 0) (fresh_from 0 40)
    -- edge op 7 {16: 256}
    ∷ to_check (nodes ((2 ∷ 0 ∷ 0 ∷ 0 ∷ 6 ∷ 0 ∷ 2 ∷ 2 ∷ 2 ∷ 4 ∷ 6 ∷ []) ∷ (14 ∷ 0 ∷ 0 ∷ 0 ∷ 0 ∷ 0 ∷ 0 ∷ 0 ∷ 0 ∷ 2 ∷ 4 ∷ 0 ∷ 0 ∷ 2 ∷ 2 ∷ 0 ∷ 512 ∷ []) ∷ [])) 40 gives leaves (answer 7 1 0) (fresh_from 0 40)
    -- edge op 2 {11: 32766}
    ∷ to_check (nodes ((2 ∷ 0 ∷ 0 ∷ 0 ∷ 6 ∷ 0 ∷ 2 ∷ 2 ∷ 2 ∷ 4 ∷ 6 ∷ []) ∷ (4 ∷ 0 ∷ 0 ∷ 0 ∷ 0 ∷ 0 ∷ 0 ∷ 0 ∷ 0 ∷ 2 ∷ 0 ∷ 65532 ∷ []) ∷ [])) 40 gives leaves (answer 7 1 0) (fresh_from 0 40)
    -- edge op 23 {5: 21}
    ∷ to_check (nodes ((2 ∷ 0 ∷ 0 ∷ 0 ∷ 6 ∷ 0 ∷ 2 ∷ 2 ∷ 2 ∷ 4 ∷ 6 ∷ []) ∷ (2 ∷ 0 ∷ 0 ∷ 0 ∷ 6 ∷ 2 ∷ 2 ∷ 2 ∷ 2 ∷ 4 ∷ 6 ∷ []) ∷ (2 ∷ 0 ∷ 0 ∷ 0 ∷ 6 ∷ 4 ∷ 2 ∷ 2 ∷ 2 ∷ 4 ∷ 6 ∷ []) ∷ (46 ∷ 0 ∷ 2 ∷ 4 ∷ 0 ∷ 42 ∷ []) ∷ [])) 40 gives leaves (answer 7 3 0) (fresh_from 0 40)
    -- edge op 19 {11: 21}
    ∷ to_check (nodes ((2 ∷ 0 ∷ 0 ∷ 0 ∷ 6 ∷ 0 ∷ 2 ∷ 2 ∷ 2 ∷ 4 ∷ 6 ∷ []) ∷ (38 ∷ 0 ∷ 0 ∷ 0 ∷ 0 ∷ 0 ∷ 0 ∷ 0 ∷ 0 ∷ 2 ∷ 0 ∷ 42 ∷ []) ∷ [])) 40 gives leaves (answer 7 1 0) (fresh_from 0 40)
    -- interval op 9
    ∷ to_check (nodes ((2 ∷ 0 ∷ 0 ∷ 0 ∷ 6 ∷ 0 ∷ 2 ∷ 13 ∷ 4294967294 ∷ 4 ∷ 6 ∷ []) ∷ (2 ∷ 0 ∷ 0 ∷ 0 ∷ 6 ∷ 2 ∷ 2 ∷ 18 ∷ 4294967294 ∷ 4 ∷ 6 ∷ []) ∷ (18 ∷ 0 ∷ 2 ∷ []) ∷ [])) 40 gives leaves (answer 11 2 0) (fresh_from 0 40)
    -- interval op 10
    ∷ to_check (nodes ((2 ∷ 0 ∷ 0 ∷ 0 ∷ 2 ∷ 0 ∷ 2 ∷ 0 ∷ 0 ∷ 4 ∷ 6 ∷ []) ∷ (2 ∷ 0 ∷ 0 ∷ 0 ∷ 2 ∷ 2 ∷ 2 ∷ 0 ∷ 0 ∷ 4 ∷ 6 ∷ []) ∷ (20 ∷ 0 ∷ 2 ∷ []) ∷ [])) 40 gives leaves (answer 0 0 0) (words (times 3 (2 ∷ 2 ∷ 0 ∷ 0 ∷ 4 ∷ 6 ∷ 0 ∷ 0 ∷ [])) ++ fresh_from 24 16)
    -- interval op 11
    ∷ to_check (nodes ((2 ∷ 0 ∷ 0 ∷ 0 ∷ 2 ∷ 0 ∷ 2 ∷ 2 ∷ 2 ∷ 4 ∷ 6 ∷ []) ∷ (2 ∷ 0 ∷ 0 ∷ 0 ∷ 2 ∷ 2 ∷ 2 ∷ 2 ∷ 2 ∷ 4 ∷ 6 ∷ []) ∷ (22 ∷ 0 ∷ 2 ∷ []) ∷ [])) 40 gives leaves (answer 0 0 0) (words (times 3 (2 ∷ 2 ∷ 2 ∷ 2 ∷ 4 ∷ 6 ∷ 0 ∷ 0 ∷ [])) ++ fresh_from 24 16)
    -- interval op 12
    ∷ to_check (nodes ((2 ∷ 0 ∷ 0 ∷ 0 ∷ 6 ∷ 0 ∷ 2 ∷ 4 ∷ 18 ∷ 4 ∷ 6 ∷ []) ∷ (2 ∷ 0 ∷ 0 ∷ 0 ∷ 6 ∷ 2 ∷ 2 ∷ 2 ∷ 4 ∷ 4 ∷ 6 ∷ []) ∷ (24 ∷ 0 ∷ 2 ∷ []) ∷ [])) 40 gives leaves (answer 0 0 0) (words (6 ∷ 2 ∷ 4 ∷ 18 ∷ 4 ∷ 6 ∷ 0 ∷ 0 ∷ 6 ∷ 2 ∷ 2 ∷ 4 ∷ 4 ∷ 6 ∷ 0 ∷ 0 ∷ 6 ∷ 2 ∷ 2 ∷ 18 ∷ 4 ∷ 6 ∷ 0 ∷ 0 ∷ []) ++ fresh_from 24 16)
    -- interval op 13
    ∷ to_check (nodes ((2 ∷ 0 ∷ 0 ∷ 0 ∷ 2 ∷ 0 ∷ 2 ∷ 10 ∷ 510 ∷ 4 ∷ 6 ∷ []) ∷ (2 ∷ 0 ∷ 0 ∷ 0 ∷ 2 ∷ 2 ∷ 2 ∷ 2 ∷ 2 ∷ 4 ∷ 6 ∷ []) ∷ (26 ∷ 0 ∷ 2 ∷ []) ∷ [])) 40 gives leaves (answer 0 0 0) (words (2 ∷ 2 ∷ 10 ∷ 510 ∷ 4 ∷ 6 ∷ 0 ∷ 0 ∷ 2 ∷ 2 ∷ 2 ∷ 2 ∷ 4 ∷ 6 ∷ 0 ∷ 0 ∷ 2 ∷ 2 ∷ 0 ∷ 0 ∷ 4 ∷ 6 ∷ 0 ∷ 0 ∷ []) ++ fresh_from 24 16)
    -- interval op 14
    ∷ to_check (nodes ((2 ∷ 0 ∷ 0 ∷ 0 ∷ 2 ∷ 0 ∷ 2 ∷ 10 ∷ 10 ∷ 4 ∷ 6 ∷ []) ∷ (2 ∷ 0 ∷ 0 ∷ 0 ∷ 2 ∷ 2 ∷ 2 ∷ 2 ∷ 4 ∷ 4 ∷ 6 ∷ []) ∷ (28 ∷ 0 ∷ 2 ∷ []) ∷ [])) 40 gives leaves (answer 0 0 0) (words (2 ∷ 2 ∷ 10 ∷ 10 ∷ 4 ∷ 6 ∷ 0 ∷ 0 ∷ 2 ∷ 2 ∷ 2 ∷ 4 ∷ 4 ∷ 6 ∷ 0 ∷ 0 ∷ 0 ∷ 2 ∷ 0 ∷ 0 ∷ 4 ∷ 6 ∷ 0 ∷ 0 ∷ []) ++ fresh_from 24 16)
    -- interval op 15
    ∷ to_check (nodes ((2 ∷ 0 ∷ 0 ∷ 0 ∷ 4 ∷ 0 ∷ 2 ∷ 0 ∷ 4 ∷ 4 ∷ 6 ∷ []) ∷ (2 ∷ 0 ∷ 0 ∷ 0 ∷ 4 ∷ 2 ∷ 2 ∷ 0 ∷ 0 ∷ 4 ∷ 6 ∷ []) ∷ (30 ∷ 0 ∷ 2 ∷ []) ∷ [])) 40 gives leaves (answer 0 0 0) (words (4 ∷ 2 ∷ 0 ∷ 4 ∷ 4 ∷ 6 ∷ 0 ∷ 0 ∷ 4 ∷ 2 ∷ 0 ∷ 0 ∷ 4 ∷ 6 ∷ 0 ∷ 0 ∷ 0 ∷ 2 ∷ 0 ∷ 2 ∷ 4 ∷ 6 ∷ 0 ∷ 0 ∷ []) ++ fresh_from 24 16)
    -- interval op 18
    ∷ to_check (nodes ((2 ∷ 0 ∷ 0 ∷ 0 ∷ 0 ∷ 0 ∷ 2 ∷ 0 ∷ 0 ∷ 4 ∷ 6 ∷ []) ∷ (2 ∷ 0 ∷ 0 ∷ 0 ∷ 6 ∷ 2 ∷ 2 ∷ 4294967293 ∷ 4294967294 ∷ 4 ∷ 6 ∷ []) ∷ (2 ∷ 0 ∷ 0 ∷ 0 ∷ 6 ∷ 4 ∷ 2 ∷ 4294967292 ∷ 4294967294 ∷ 4 ∷ 6 ∷ []) ∷ (36 ∷ 0 ∷ 2 ∷ 4 ∷ []) ∷ [])) 40 gives leaves (answer 0 0 0) (words (0 ∷ 2 ∷ 0 ∷ 0 ∷ 4 ∷ 6 ∷ 0 ∷ 0 ∷ 6 ∷ 2 ∷ 4294967293 ∷ 4294967294 ∷ 4 ∷ 6 ∷ 0 ∷ 0 ∷ 6 ∷ 2 ∷ 4294967292 ∷ 4294967294 ∷ 4 ∷ 6 ∷ 0 ∷ 0 ∷ 6 ∷ 2 ∷ 4294967293 ∷ 4294967294 ∷ 4 ∷ 6 ∷ 0 ∷ 0 ∷ []) ++ fresh_from 32 8)
    -- interval op 19
    ∷ to_check (nodes ((2 ∷ 0 ∷ 0 ∷ 0 ∷ 2 ∷ 0 ∷ 2 ∷ 0 ∷ 2 ∷ 4 ∷ 6 ∷ []) ∷ (38 ∷ 0 ∷ 0 ∷ 0 ∷ 0 ∷ 0 ∷ 0 ∷ 0 ∷ 0 ∷ 2 ∷ []) ∷ [])) 40 gives leaves (answer 0 0 0) (words (2 ∷ 2 ∷ 0 ∷ 2 ∷ 4 ∷ 6 ∷ 0 ∷ 0 ∷ 2 ∷ 2 ∷ 0 ∷ 4 ∷ 2 ∷ 6 ∷ 0 ∷ 0 ∷ []) ++ fresh_from 16 24)
    -- interval op 8
    ∷ to_check (nodes ((2 ∷ 0 ∷ 0 ∷ 0 ∷ 2 ∷ 0 ∷ 2 ∷ 2 ∷ 18 ∷ 4 ∷ 6 ∷ []) ∷ (16 ∷ 0 ∷ 0 ∷ 0 ∷ 4 ∷ []) ∷ [])) 40 gives leaves (answer 0 0 0) (words (2 ∷ 2 ∷ 2 ∷ 18 ∷ 4 ∷ 6 ∷ 0 ∷ 0 ∷ 4 ∷ 2 ∷ 2 ∷ 18 ∷ 4 ∷ 6 ∷ 0 ∷ 0 ∷ []) ++ fresh_from 16 24)
    -- interval op 16
    ∷ to_check (nodes ((2 ∷ 0 ∷ 0 ∷ 0 ∷ 0 ∷ 0 ∷ 2 ∷ 0 ∷ 0 ∷ 4 ∷ 6 ∷ []) ∷ (2 ∷ 0 ∷ 0 ∷ 0 ∷ 0 ∷ 2 ∷ 2 ∷ 0 ∷ 2 ∷ 4 ∷ 6 ∷ []) ∷ (32 ∷ 0 ∷ 2 ∷ []) ∷ [])) 40 gives leaves (answer 0 0 0) (words (0 ∷ 2 ∷ 0 ∷ 0 ∷ 4 ∷ 6 ∷ 0 ∷ 0 ∷ 0 ∷ 2 ∷ 0 ∷ 2 ∷ 4 ∷ 6 ∷ 0 ∷ 0 ∷ 0 ∷ 2 ∷ 0 ∷ 0 ∷ 4 ∷ 6 ∷ 0 ∷ 0 ∷ []) ++ fresh_from 24 16)
    -- interval op 17
    ∷ to_check (nodes ((2 ∷ 0 ∷ 0 ∷ 0 ∷ 0 ∷ 0 ∷ 2 ∷ 2 ∷ 2 ∷ 4 ∷ 6 ∷ []) ∷ (2 ∷ 0 ∷ 0 ∷ 0 ∷ 0 ∷ 2 ∷ 2 ∷ 0 ∷ 2 ∷ 4 ∷ 6 ∷ []) ∷ (34 ∷ 0 ∷ 2 ∷ []) ∷ [])) 40 gives leaves (answer 0 0 0) (words (0 ∷ 2 ∷ 2 ∷ 2 ∷ 4 ∷ 6 ∷ 0 ∷ 0 ∷ 0 ∷ 2 ∷ 0 ∷ 2 ∷ 4 ∷ 6 ∷ 0 ∷ 0 ∷ 0 ∷ 2 ∷ 2 ∷ 2 ∷ 4 ∷ 6 ∷ 0 ∷ 0 ∷ []) ++ fresh_from 24 16)
    -- interval op 21
    ∷ to_check (nodes ((2 ∷ 0 ∷ 0 ∷ 0 ∷ 0 ∷ 0 ∷ 2 ∷ 0 ∷ 2 ∷ 4 ∷ 6 ∷ []) ∷ (2 ∷ 0 ∷ 0 ∷ 0 ∷ 0 ∷ 2 ∷ 2 ∷ 0 ∷ 2 ∷ 4 ∷ 6 ∷ []) ∷ (42 ∷ 0 ∷ 2 ∷ []) ∷ [])) 40 gives leaves (answer 0 0 0) (words (times 3 (0 ∷ 2 ∷ 0 ∷ 2 ∷ 4 ∷ 6 ∷ 0 ∷ 0 ∷ [])) ++ fresh_from 24 16)
    -- interval op 23
    ∷ to_check (nodes ((2 ∷ 0 ∷ 0 ∷ 0 ∷ 4 ∷ 0 ∷ 2 ∷ 65533 ∷ 65531 ∷ 4 ∷ 6 ∷ []) ∷ (2 ∷ 0 ∷ 0 ∷ 0 ∷ 4 ∷ 2 ∷ 2 ∷ 65534 ∷ 65534 ∷ 4 ∷ 6 ∷ []) ∷ (2 ∷ 0 ∷ 0 ∷ 0 ∷ 4 ∷ 4 ∷ 2 ∷ 5 ∷ 5 ∷ 4 ∷ 6 ∷ []) ∷ (46 ∷ 0 ∷ 2 ∷ 4 ∷ 0 ∷ 6 ∷ []) ∷ [])) 40 gives leaves (answer 0 0 0) (words (4 ∷ 2 ∷ 65533 ∷ 65531 ∷ 4 ∷ 6 ∷ 0 ∷ 0 ∷ 4 ∷ 2 ∷ 65534 ∷ 65534 ∷ 4 ∷ 6 ∷ 0 ∷ 0 ∷ 4 ∷ 2 ∷ 5 ∷ 5 ∷ 4 ∷ 6 ∷ 0 ∷ 0 ∷ 4 ∷ 2 ∷ 65533 ∷ 65534 ∷ 6 ∷ 4 ∷ 6 ∷ 0 ∷ []) ++ fresh_from 32 8)
    -- interval op 9
    ∷ to_check (nodes ((2 ∷ 0 ∷ 0 ∷ 0 ∷ 6 ∷ 0 ∷ 2 ∷ 2 ∷ 4 ∷ 4 ∷ 6 ∷ []) ∷ (2 ∷ 0 ∷ 0 ∷ 0 ∷ 6 ∷ 2 ∷ 2 ∷ 1 ∷ 1 ∷ 4 ∷ 6 ∷ []) ∷ (18 ∷ 0 ∷ 2 ∷ []) ∷ [])) 40 gives leaves (answer 0 0 0) (words (6 ∷ 2 ∷ 2 ∷ 4 ∷ 4 ∷ 6 ∷ 0 ∷ 0 ∷ 6 ∷ 2 ∷ 1 ∷ 1 ∷ 4 ∷ 6 ∷ 0 ∷ 0 ∷ 6 ∷ 2 ∷ 0 ∷ 2 ∷ 4 ∷ 6 ∷ 0 ∷ 0 ∷ []) ++ fresh_from 24 16)
    -- interval op 10
    ∷ to_check (nodes ((2 ∷ 0 ∷ 0 ∷ 0 ∷ 2 ∷ 0 ∷ 2 ∷ 508 ∷ 508 ∷ 4 ∷ 6 ∷ []) ∷ (2 ∷ 0 ∷ 0 ∷ 0 ∷ 2 ∷ 2 ∷ 2 ∷ 508 ∷ 508 ∷ 4 ∷ 6 ∷ []) ∷ (20 ∷ 0 ∷ 2 ∷ []) ∷ [])) 40 gives leaves (answer 11 2 0) (fresh_from 0 40)
    -- interval op 12
    ∷ to_check (nodes ((2 ∷ 0 ∷ 0 ∷ 0 ∷ 6 ∷ 0 ∷ 2 ∷ 4294967295 ∷ 65532 ∷ 4 ∷ 6 ∷ []) ∷ (2 ∷ 0 ∷ 0 ∷ 0 ∷ 6 ∷ 2 ∷ 2 ∷ 2 ∷ 4294967294 ∷ 4 ∷ 6 ∷ []) ∷ (24 ∷ 0 ∷ 2 ∷ []) ∷ [])) 40 gives leaves (answer 0 0 0) (words (6 ∷ 2 ∷ 4294967295 ∷ 65532 ∷ 4 ∷ 6 ∷ 0 ∷ 0 ∷ 6 ∷ 2 ∷ 2 ∷ 4294967294 ∷ 4 ∷ 6 ∷ 0 ∷ 0 ∷ 6 ∷ 2 ∷ 4294967295 ∷ 65532 ∷ 4 ∷ 6 ∷ 0 ∷ 0 ∷ []) ++ fresh_from 24 16)
    -- interval op 8
    ∷ to_check (nodes ((2 ∷ 0 ∷ 0 ∷ 0 ∷ 0 ∷ 0 ∷ 2 ∷ 0 ∷ 2 ∷ 4 ∷ 6 ∷ []) ∷ (16 ∷ 0 ∷ 0 ∷ 0 ∷ 2 ∷ []) ∷ [])) 40 gives leaves (answer 0 0 0) (words (0 ∷ 2 ∷ 0 ∷ 2 ∷ 4 ∷ 6 ∷ 0 ∷ 0 ∷ 2 ∷ 2 ∷ 0 ∷ 2 ∷ 4 ∷ 6 ∷ 0 ∷ 0 ∷ []) ++ fresh_from 16 24)
    -- interval op 9
    ∷ to_check (nodes ((2 ∷ 0 ∷ 0 ∷ 0 ∷ 2 ∷ 0 ∷ 2 ∷ 0 ∷ 508 ∷ 4 ∷ 6 ∷ []) ∷ (2 ∷ 0 ∷ 0 ∷ 0 ∷ 2 ∷ 2 ∷ 2 ∷ 0 ∷ 510 ∷ 4 ∷ 6 ∷ []) ∷ (18 ∷ 0 ∷ 2 ∷ []) ∷ [])) 40 gives leaves (answer 11 2 0) (fresh_from 0 40)
    ∷ []

pub table13_agrees : Agree table13
unfolding everything
table13_agrees = refl
