-- Written by tests/model/tables.py: change that script or cases.py, never this file.
use mathlib.Core.Path.{refl}
use mathlib.Core.List.{List, [], ◌∷◌}
use Rattle.guarantees.proofs.Everything.{everything}
use Rattle.agreement.specs.Cases.{words, nodes, fresh_from, flags_from, to_unpack, to_unpack_check, to_run, leaves, leaves_both, number, answer, Case, ◌gives◌, Agree}

abbrev pub table21 : List Case
table21 =
    -- inputs (16, 15) at [2, 4]
    to_run (nodes ((2 ∷ 0 ∷ 0 ∷ 0 ∷ 6 ∷ 0 ∷ 2 ∷ 1 ∷ 1 ∷ 4 ∷ []) ∷ (2 ∷ 0 ∷ 0 ∷ 0 ∷ 6 ∷ 2 ∷ 2 ∷ 5 ∷ 1 ∷ 2 ∷ []) ∷ (2 ∷ 0 ∷ 0 ∷ 0 ∷ 6 ∷ 4 ∷ 2 ∷ 9 ∷ 3 ∷ 4 ∷ []) ∷ (6 ∷ 2 ∷ 0 ∷ 0 ∷ 0 ∷ 0 ∷ 0 ∷ 0 ∷ 0 ∷ 2 ∷ []) ∷ (12 ∷ 2 ∷ 0 ∷ 0 ∷ 0 ∷ 0 ∷ 0 ∷ 0 ∷ 0 ∷ 6 ∷ 0 ∷ 0 ∷ 0 ∷ 4 ∷ []) ∷ (16 ∷ 6 ∷ 0 ∷ 0 ∷ 6 ∷ []) ∷ (30 ∷ 0 ∷ 4 ∷ []) ∷ (18 ∷ 8 ∷ 6 ∷ []) ∷ [])) (words (1 ∷ 9223372036854775808 ∷ 18446744073709551615 ∷ 9 ∷ 5 ∷ [])) (1 ∷ 0 ∷ 1 ∷ 1 ∷ 3 ∷ []) 15 15 gives leaves_both (answer 16 2 0) (fresh_from 0 15) (flags_from 0 15)
    -- inputs (16, 16) at [18, 23]
    ∷ to_run (nodes ((2 ∷ 0 ∷ 0 ∷ 0 ∷ 0 ∷ 0 ∷ 2 ∷ 0 ∷ 0 ∷ 2 ∷ 4 ∷ 6 ∷ []) ∷ (2 ∷ 0 ∷ 0 ∷ 0 ∷ 4 ∷ 2 ∷ 510 ∷ 0 ∷ 0 ∷ 2 ∷ 4 ∷ 6 ∷ []) ∷ (2 ∷ 0 ∷ 0 ∷ 0 ∷ 0 ∷ 4 ∷ 2 ∷ 2 ∷ 2 ∷ 2 ∷ 4 ∷ 6 ∷ []) ∷ (2 ∷ 0 ∷ 0 ∷ 0 ∷ 0 ∷ 6 ∷ 2 ∷ 0 ∷ 2 ∷ 2 ∷ 4 ∷ 6 ∷ []) ∷ (34 ∷ 0 ∷ 4 ∷ []) ∷ (30 ∷ 6 ∷ 4 ∷ []) ∷ [])) (words (0 ∷ 0 ∷ 34 ∷ 34 ∷ 0 ∷ 0 ∷ 0 ∷ 0 ∷ 0 ∷ 42 ∷ 0 ∷ 0 ∷ 2 ∷ 2 ∷ 2 ∷ 2 ∷ 2 ∷ 2 ∷ 4 ∷ 0 ∷ 2097150 ∷ 4294967293 ∷ 0 ∷ 1 ∷ [])) (1 ∷ 1 ∷ 0 ∷ 0 ∷ 1 ∷ 1 ∷ 1 ∷ 1 ∷ 1 ∷ 0 ∷ 1 ∷ 1 ∷ 1 ∷ 0 ∷ 1 ∷ 1 ∷ 1 ∷ 1 ∷ 1 ∷ 1 ∷ 0 ∷ 0 ∷ 1 ∷ 1 ∷ []) 36 36 gives leaves_both (answer 16 18 0) (fresh_from 0 36) (flags_from 0 36)
    -- inputs (15, 15) at [0, 2] and 14
    ∷ to_run (nodes ((2 ∷ 0 ∷ 0 ∷ 0 ∷ 0 ∷ 0 ∷ 2 ∷ 2 ∷ 2 ∷ 2 ∷ []) ∷ (2 ∷ 0 ∷ 0 ∷ 0 ∷ 0 ∷ 2 ∷ 2 ∷ []) ∷ (2 ∷ 0 ∷ 0 ∷ 0 ∷ 0 ∷ 4 ∷ 2 ∷ 2 ∷ 2 ∷ []) ∷ (2 ∷ 0 ∷ 0 ∷ 0 ∷ 0 ∷ 6 ∷ 2 ∷ 0 ∷ 2 ∷ 2 ∷ []) ∷ (6 ∷ 2 ∷ []) ∷ (34 ∷ 4 ∷ 2 ∷ []) ∷ (8 ∷ 4 ∷ []) ∷ (16 ∷ 6 ∷ 0 ∷ 0 ∷ 4 ∷ []) ∷ [])) (words (2 ∷ 0 ∷ 2 ∷ 2 ∷ [])) (254 ∷ 1 ∷ 255 ∷ 1 ∷ []) 7 7 gives leaves_both (answer 14 0 0) (fresh_from 0 7) (flags_from 0 7)
    -- inputs ('gap', 16) at [1, 3] and 13
    ∷ to_run (nodes ((2 ∷ 0 ∷ 0 ∷ 0 ∷ 6 ∷ 0 ∷ 2 ∷ 1 ∷ 1 ∷ 2 ∷ 4 ∷ []) ∷ (2 ∷ 0 ∷ 0 ∷ 0 ∷ 0 ∷ 2 ∷ 510 ∷ 0 ∷ 0 ∷ 2 ∷ 2 ∷ []) ∷ (2 ∷ 0 ∷ 0 ∷ 0 ∷ 0 ∷ 4 ∷ 2 ∷ 2 ∷ 2 ∷ 2 ∷ 2 ∷ []) ∷ (20 ∷ []) ∷ [])) (words (1 ∷ 18446744073709551614 ∷ 0 ∷ 0 ∷ [])) [] 6 6 gives leaves_both (answer 13 0 0) (fresh_from 0 6) (flags_from 0 6)
    -- inputs ('gap', 15) at [0, 2]
    ∷ to_run (nodes ((2 ∷ 0 ∷ 0 ∷ 0 ∷ 2 ∷ 0 ∷ 2 ∷ 8 ∷ 18 ∷ 2 ∷ []) ∷ (2 ∷ 0 ∷ 0 ∷ 0 ∷ 0 ∷ 2 ∷ 510 ∷ 2 ∷ 2 ∷ 4 ∷ 2 ∷ 2 ∷ 2 ∷ []) ∷ (2 ∷ 0 ∷ 0 ∷ 0 ∷ 2 ∷ 4 ∷ 510 ∷ 0 ∷ 510 ∷ 2 ∷ 2 ∷ []) ∷ (8 ∷ 0 ∷ 0 ∷ 0 ∷ 0 ∷ 0 ∷ 0 ∷ 0 ∷ 0 ∷ 2 ∷ 2 ∷ 2 ∷ []) ∷ [])) (words (18446744073709551615 ∷ 2097150 ∷ 2 ∷ 292 ∷ [])) (0 ∷ 0 ∷ 254 ∷ 1 ∷ []) 5 5 gives leaves_both (answer 15 2 0) (fresh_from 0 5) (flags_from 0 5)
    -- inputs ('both', 16) at [0, 2]
    ∷ to_run (nodes ((2 ∷ 0 ∷ 0 ∷ 0 ∷ 6 ∷ 0 ∷ 2 ∷ 1 ∷ 0 ∷ 2 ∷ []) ∷ (2 ∷ 0 ∷ 0 ∷ 0 ∷ 6 ∷ 2 ∷ 2 ∷ 4 ∷ 4 ∷ []) ∷ (2 ∷ 0 ∷ 0 ∷ 0 ∷ 0 ∷ 4 ∷ 2 ∷ 0 ∷ 2 ∷ 2 ∷ []) ∷ (32 ∷ 4 ∷ 4 ∷ []) ∷ (0 ∷ 0 ∷ 0 ∷ 0 ∷ 6 ∷ 2 ∷ []) ∷ (6 ∷ 4 ∷ 0 ∷ 0 ∷ 0 ∷ 0 ∷ 0 ∷ 0 ∷ 0 ∷ 2 ∷ []) ∷ (34 ∷ 6 ∷ 4 ∷ []) ∷ (34 ∷ 12 ∷ 10 ∷ []) ∷ (30 ∷ 14 ∷ 6 ∷ []) ∷ [])) (words (2 ∷ 30 ∷ 1 ∷ [])) (3 ∷ 0 ∷ 1 ∷ []) 9 9 gives leaves_both (answer 15 0 0) (fresh_from 0 9) (flags_from 0 9)
    -- inputs (16, 'both') at [1, 5]
    ∷ to_run (nodes ((2 ∷ 0 ∷ 0 ∷ 0 ∷ 6 ∷ 0 ∷ 2 ∷ 8 ∷ 18 ∷ 4 ∷ 4 ∷ []) ∷ (2 ∷ 0 ∷ 0 ∷ 0 ∷ 6 ∷ 2 ∷ 2 ∷ 13 ∷ 14 ∷ 4 ∷ 4 ∷ []) ∷ (2 ∷ 0 ∷ 0 ∷ 0 ∷ 6 ∷ 4 ∷ 2 ∷ 13 ∷ 14 ∷ 2 ∷ 4 ∷ []) ∷ (2 ∷ 0 ∷ 0 ∷ 0 ∷ 0 ∷ 6 ∷ 2 ∷ 0 ∷ 0 ∷ 4 ∷ 4 ∷ []) ∷ (44 ∷ 2 ∷ []) ∷ (46 ∷ 0 ∷ 0 ∷ 2 ∷ 0 ∷ 6 ∷ []) ∷ (30 ∷ 0 ∷ 4 ∷ []) ∷ (8 ∷ 8 ∷ 0 ∷ 0 ∷ 0 ∷ 0 ∷ 0 ∷ 0 ∷ 0 ∷ 2 ∷ 2 ∷ 8 ∷ []) ∷ [])) (words (8 ∷ 20 ∷ 40 ∷ 18 ∷ 14 ∷ 15 ∷ 6 ∷ 10 ∷ 13 ∷ 512 ∷ 0 ∷ 0 ∷ 0 ∷ 0 ∷ [])) (1 ∷ 1 ∷ 0 ∷ 1 ∷ 1 ∷ 255 ∷ 0 ∷ 1 ∷ 1 ∷ 0 ∷ 1 ∷ 1 ∷ 1 ∷ 1 ∷ []) 38 38 gives leaves_both (answer 16 1 0) (fresh_from 0 38) (flags_from 0 38)
    -- inputs (15,) at [0] and 14
    ∷ to_run (nodes ((2 ∷ 0 ∷ 0 ∷ 0 ∷ 2 ∷ 0 ∷ 2 ∷ 0 ∷ 10 ∷ []) ∷ (2 ∷ 0 ∷ 0 ∷ 0 ∷ 2 ∷ 2 ∷ 2 ∷ 2 ∷ 2 ∷ 2 ∷ []) ∷ (42 ∷ 2 ∷ 2 ∷ []) ∷ (16 ∷ 2 ∷ 0 ∷ 0 ∷ 6 ∷ []) ∷ [])) (words (0 ∷ 4294967294 ∷ [])) (3 ∷ 0 ∷ []) 3 4 gives leaves_both (answer 14 0 0) (fresh_from 0 3) (flags_from 0 4)
    -- inputs (16,) at [1]
    ∷ to_run (nodes ((2 ∷ 0 ∷ 0 ∷ 0 ∷ 6 ∷ 0 ∷ 2 ∷ 1 ∷ 1 ∷ 4 ∷ 6 ∷ []) ∷ (2 ∷ 0 ∷ 0 ∷ 0 ∷ 4 ∷ 2 ∷ 14 ∷ 7 ∷ 20 ∷ 2 ∷ 2 ∷ []) ∷ (2 ∷ 0 ∷ 0 ∷ 0 ∷ 6 ∷ 4 ∷ 510 ∷ 4 ∷ 4 ∷ 2 ∷ 6 ∷ []) ∷ (4 ∷ 2 ∷ 0 ∷ 0 ∷ 0 ∷ 0 ∷ 0 ∷ 0 ∷ 0 ∷ 0 ∷ 2 ∷ []) ∷ (20 ∷ []) ∷ (0 ∷ 0 ∷ 0 ∷ 0 ∷ 2 ∷ []) ∷ (0 ∷ 0 ∷ 0 ∷ 0 ∷ 2 ∷ 510 ∷ []) ∷ (22 ∷ 6 ∷ 6 ∷ []) ∷ (14 ∷ 0 ∷ 0 ∷ 0 ∷ 0 ∷ 0 ∷ 0 ∷ 0 ∷ 0 ∷ 2 ∷ 2 ∷ 0 ∷ 0 ∷ 2 ∷ 2 ∷ []) ∷ [])) (words (65531 ∷ 18446744073709551614 ∷ 0 ∷ 8589934592 ∷ 1 ∷ 1 ∷ 7 ∷ 4 ∷ 4 ∷ 2 ∷ [])) (0 ∷ 1 ∷ 0 ∷ 0 ∷ 1 ∷ 1 ∷ 1 ∷ 1 ∷ 1 ∷ 0 ∷ []) 21 21 gives leaves_both (answer 16 1 0) (fresh_from 0 21) (flags_from 0 21)
    -- inputs ('both',) at [4] and 13
    ∷ to_run (nodes ((2 ∷ 0 ∷ 0 ∷ 0 ∷ 6 ∷ 0 ∷ 2 ∷ 8 ∷ 18 ∷ 6 ∷ []) ∷ (2 ∷ 0 ∷ 0 ∷ 0 ∷ 6 ∷ 2 ∷ 2 ∷ 8 ∷ 18 ∷ 6 ∷ []) ∷ (2 ∷ 0 ∷ 0 ∷ 0 ∷ 6 ∷ 4 ∷ 2 ∷ 4 ∷ 4 ∷ []) ∷ (30 ∷ 2 ∷ 4 ∷ []) ∷ [])) (words (8 ∷ 16 ∷ 8 ∷ 18446744073709551615 ∷ 8 ∷ 4 ∷ [])) (1 ∷ 1 ∷ 1 ∷ 2 ∷ 1 ∷ 1 ∷ []) 10 10 gives leaves_both (answer 13 0 0) (fresh_from 0 10) (flags_from 0 10)
    -- inputs ('gap',) at [3]
    ∷ to_run (nodes ((2 ∷ 0 ∷ 0 ∷ 0 ∷ 0 ∷ 0 ∷ 2 ∷ 2 ∷ 2 ∷ 4 ∷ 6 ∷ 2 ∷ []) ∷ (2 ∷ 0 ∷ 0 ∷ 0 ∷ 6 ∷ 2 ∷ 2 ∷ 0 ∷ 2 ∷ 4 ∷ 6 ∷ 2 ∷ []) ∷ (0 ∷ 0 ∷ 0 ∷ 0 ∷ 6 ∷ 2 ∷ []) ∷ (22 ∷ 2 ∷ 4 ∷ []) ∷ (12 ∷ 6 ∷ 0 ∷ 0 ∷ 0 ∷ 0 ∷ 0 ∷ 0 ∷ 0 ∷ 6 ∷ 6 ∷ 4 ∷ 0 ∷ 0 ∷ 0 ∷ 2 ∷ []) ∷ (24 ∷ 4 ∷ 8 ∷ []) ∷ (38 ∷ 10 ∷ []) ∷ [])) (words (2 ∷ 65534 ∷ 2 ∷ 18446744073709551615 ∷ 508 ∷ 2 ∷ 34 ∷ 2 ∷ 9223372036854775808 ∷ 2 ∷ 0 ∷ 2 ∷ [])) (1 ∷ 0 ∷ 1 ∷ 0 ∷ 0 ∷ 1 ∷ 0 ∷ 1 ∷ 0 ∷ 1 ∷ 1 ∷ 1 ∷ []) 73 73 gives leaves_both (answer 0 0 14) (words (2 ∷ 0 ∷ 2 ∷ 0 ∷ 0 ∷ 2 ∷ 0 ∷ 2 ∷ 0 ∷ 2 ∷ 0 ∷ 2 ∷ 2 ∷ 0 ∷ 2 ∷ 0 ∷ 2 ∷ 2 ∷ 2 ∷ 0 ∷ 0 ∷ 0 ∷ 2 ∷ 0 ∷ 0 ∷ 0 ∷ 2 ∷ 0 ∷ 2 ∷ 0 ∷ 2 ∷ 0 ∷ 0 ∷ 0 ∷ 0 ∷ 0 ∷ 0 ∷ 0 ∷ 0 ∷ 0 ∷ 2 ∷ 0 ∷ 0 ∷ 0 ∷ 2 ∷ 0 ∷ 2 ∷ 0 ∷ 2 ∷ 0 ∷ 0 ∷ 0 ∷ 0 ∷ 0 ∷ 0 ∷ 0 ∷ 0 ∷ 0 ∷ 2 ∷ 0 ∷ 0 ∷ 0 ∷ 2 ∷ 0 ∷ 2 ∷ 0 ∷ 2 ∷ 0 ∷ 0 ∷ 0 ∷ 0 ∷ 0 ∷ 0 ∷ [])) (1 ∷ 0 ∷ 1 ∷ 0 ∷ 0 ∷ 1 ∷ 0 ∷ 1 ∷ 0 ∷ 1 ∷ 1 ∷ 1 ∷ 1 ∷ 0 ∷ 1 ∷ 0 ∷ 1 ∷ 1 ∷ 1 ∷ 0 ∷ 0 ∷ 0 ∷ 1 ∷ 0 ∷ 0 ∷ 0 ∷ 1 ∷ 0 ∷ 1 ∷ 0 ∷ 1 ∷ 0 ∷ 0 ∷ 0 ∷ 0 ∷ 0 ∷ 0 ∷ 0 ∷ 0 ∷ 0 ∷ 1 ∷ 0 ∷ 0 ∷ 0 ∷ 1 ∷ 0 ∷ 1 ∷ 0 ∷ 1 ∷ 0 ∷ 0 ∷ 0 ∷ 0 ∷ 0 ∷ 0 ∷ 0 ∷ 0 ∷ 0 ∷ 1 ∷ 0 ∷ 0 ∷ 0 ∷ 1 ∷ 0 ∷ 1 ∷ 0 ∷ 1 ∷ 0 ∷ 0 ∷ 0 ∷ 0 ∷ 0 ∷ 0 ∷ [])
    -- order of refusals
    ∷ to_unpack [] 0 gives leaves (answer 20 0 0) []
    -- order of refusals
    ∷ to_unpack (128 ∷ 0 ∷ []) 0 gives leaves (answer 21 0 0) []
    -- order of refusals
    ∷ to_unpack (128 ∷ []) 0 gives leaves (answer 20 0 0) []
    -- order of refusals
    ∷ to_unpack (0 ∷ []) 0 gives leaves (answer 23 0 0) []
    -- order of refusals
    ∷ to_unpack (129 ∷ 2 ∷ []) 0 gives leaves (answer 23 0 0) []
    -- order of refusals
    ∷ to_unpack (1 ∷ []) 0 gives leaves (answer 14 0 0) []
    -- order of refusals
    ∷ to_unpack (1 ∷ 21 ∷ []) 16 gives leaves (answer 14 0 0) (fresh_from 0 16)
    -- order of refusals
    ∷ to_unpack (1 ∷ 21 ∷ []) 17 gives leaves (answer 24 1 0) (fresh_from 0 17)
    -- order of refusals
    ∷ to_unpack (1 ∷ 128 ∷ 0 ∷ []) 16 gives leaves (answer 14 0 0) (fresh_from 0 16)
    -- order of refusals
    ∷ to_unpack (1 ∷ 149 ∷ []) 17 gives leaves (answer 20 1 0) (fresh_from 0 17)
    -- order of refusals
    ∷ to_unpack (1 ∷ 149 ∷ 0 ∷ []) 17 gives leaves (answer 21 1 0) (fresh_from 0 17)
    -- order of refusals
    ∷ to_unpack (1 ∷ 21 ∷ 128 ∷ 128 ∷ 128 ∷ []) 17 gives leaves (answer 24 1 0) (fresh_from 0 17)
    -- order of refusals
    ∷ to_unpack (1 ∷ 0 ∷ 4 ∷ 10 ∷ 21 ∷ []) 16 gives leaves (answer 14 0 0) (fresh_from 0 16)
    -- order of refusals
    ∷ to_unpack (1 ∷ 0 ∷ 4 ∷ 10 ∷ 21 ∷ []) 17 gives leaves (answer 22 4 0) (fresh_from 0 17)
    -- order of refusals
    ∷ to_unpack (2 ∷ 0 ∷ 4 ∷ 10 ∷ 21 ∷ []) 33 gives leaves (answer 14 0 0) (fresh_from 0 33)
    -- order of refusals
    ∷ to_unpack (2 ∷ 0 ∷ 4 ∷ 10 ∷ 21 ∷ []) 34 gives leaves (answer 24 4 0) (fresh_from 0 34)
    -- order of refusals
    ∷ to_unpack (2 ∷ 0 ∷ 4 ∷ 10 ∷ 21 ∷ 128 ∷ 0 ∷ []) 34 gives leaves (answer 24 4 0) (fresh_from 0 34)
    -- order of refusals
    ∷ to_unpack (2 ∷ 0 ∷ 128 ∷ 0 ∷ 0 ∷ 10 ∷ 21 ∷ []) 34 gives leaves (answer 21 2 0) (fresh_from 0 34)
    -- order of refusals
    ∷ to_unpack (128 ∷ 2 ∷ []) 4351 gives leaves (answer 14 0 0) (fresh_from 0 4351)
    -- order of refusals
    ∷ to_unpack (128 ∷ 2 ∷ []) 4352 gives leaves (answer 20 2 0) (fresh_from 0 4352)
    -- order of refusals
    ∷ to_unpack (128 ∷ 2 ∷ 128 ∷ 0 ∷ []) 4352 gives leaves (answer 21 2 0) (fresh_from 0 4352)
    -- fixed bytes
    ∷ to_unpack [] 204 gives leaves (answer 20 0 0) (fresh_from 0 204)
    -- fixed bytes
    ∷ to_unpack (0 ∷ []) 204 gives leaves (answer 23 0 0) (fresh_from 0 204)
    -- fixed bytes
    ∷ to_unpack (1 ∷ []) 204 gives leaves (answer 20 1 0) (fresh_from 0 204)
    -- fixed bytes
    ∷ to_unpack (128 ∷ []) 204 gives leaves (answer 20 0 0) (fresh_from 0 204)
    -- fixed bytes
    ∷ to_unpack_check (128 ∷ 0 ∷ []) gives number 1376256
    -- fixed bytes
    ∷ to_unpack (129 ∷ 0 ∷ []) 204 gives leaves (answer 21 0 0) (fresh_from 0 204)
    -- fixed bytes
    ∷ to_unpack (129 ∷ 2 ∷ []) 204 gives leaves (answer 23 0 0) (fresh_from 0 204)
    -- fixed bytes
    ∷ to_unpack (128 ∷ 2 ∷ []) 204 gives leaves (answer 14 0 0) (fresh_from 0 204)
    -- fixed bytes
    ∷ to_unpack (128 ∷ 128 ∷ 128 ∷ 128 ∷ []) 204 gives leaves (answer 20 0 0) (fresh_from 0 204)
    -- fixed bytes
    ∷ to_unpack (128 ∷ 128 ∷ 128 ∷ 128 ∷ 128 ∷ []) 0 gives leaves (answer 21 0 0) []
    -- fixed bytes
    ∷ to_unpack_check (128 ∷ 128 ∷ 128 ∷ 128 ∷ 0 ∷ []) gives number 1376256
    -- fixed bytes
    ∷ to_unpack (255 ∷ 255 ∷ 255 ∷ 255 ∷ 255 ∷ []) 204 gives leaves (answer 21 0 0) (fresh_from 0 204)
    -- fixed bytes
    ∷ to_unpack_check (255 ∷ 255 ∷ 255 ∷ 255 ∷ 127 ∷ []) gives number 1507328
    -- fixed bytes
    ∷ to_unpack (1 ∷ 21 ∷ []) 204 gives leaves (answer 24 1 0) (fresh_from 0 204)
    -- fixed bytes
    ∷ to_unpack (1 ∷ 0 ∷ []) 204 gives leaves (answer 20 2 0) (fresh_from 0 204)
    -- fixed bytes
    ∷ to_unpack (1 ∷ 0 ∷ 4 ∷ []) 204 gives leaves (answer 20 3 0) (fresh_from 0 204)
    -- fixed bytes
    ∷ to_unpack_check (1 ∷ 0 ∷ 4 ∷ 10 ∷ []) gives number 1
    -- fixed bytes
    ∷ to_unpack (1 ∷ 0 ∷ 4 ∷ 10 ∷ 0 ∷ []) 204 gives leaves (answer 22 4 0) (fresh_from 0 204)
    ∷ []

pub table21_agrees : Agree table21
unfolding everything
table21_agrees = refl
