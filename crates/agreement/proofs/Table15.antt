-- Written by tests/model/tables.py: change that script or cases.py, never this file.
use mathlib.Core.Path.{refl}
use mathlib.Core.List.{List, [], ◌∷◌, ◌++◌}
use Rattle.guarantees.proofs.Everything.{everything}
use Rattle.agreement.specs.Cases.{words, nodes, fresh_from, to_check, leaves, answer, Case, ◌gives◌, Agree}

abbrev pub table15 : List Case
table15 =
    -- interval op 8
    to_check (nodes ((2 ∷ 0 ∷ 0 ∷ 0 ∷ 6 ∷ 0 ∷ 2 ∷ 2 ∷ 4 ∷ 4 ∷ 6 ∷ []) ∷ (16 ∷ []) ∷ [])) 40 gives leaves (answer 11 1 0) (fresh_from 0 40)
    -- interval op 9
    ∷ to_check (nodes ((2 ∷ 0 ∷ 0 ∷ 0 ∷ 4 ∷ 0 ∷ 2 ∷ 5 ∷ 1 ∷ 4 ∷ 6 ∷ []) ∷ (2 ∷ 0 ∷ 0 ∷ 0 ∷ 4 ∷ 2 ∷ 2 ∷ 2 ∷ 510 ∷ 4 ∷ 6 ∷ []) ∷ (18 ∷ 0 ∷ 2 ∷ []) ∷ [])) 40 gives leaves (answer 0 0 0) (words (4 ∷ 2 ∷ 5 ∷ 1 ∷ 4 ∷ 6 ∷ 0 ∷ 0 ∷ 4 ∷ 2 ∷ 2 ∷ 510 ∷ 4 ∷ 6 ∷ 0 ∷ 0 ∷ 4 ∷ 2 ∷ 3 ∷ 508 ∷ 4 ∷ 6 ∷ 0 ∷ 0 ∷ []) ++ fresh_from 24 16)
    -- interval op 10
    ∷ to_check (nodes ((2 ∷ 0 ∷ 0 ∷ 0 ∷ 6 ∷ 0 ∷ 2 ∷ 4294967293 ∷ 4294967292 ∷ 4 ∷ 6 ∷ []) ∷ (2 ∷ 0 ∷ 0 ∷ 0 ∷ 6 ∷ 2 ∷ 2 ∷ 4294967295 ∷ 4294967295 ∷ 4 ∷ 6 ∷ []) ∷ (20 ∷ 0 ∷ 2 ∷ []) ∷ [])) 40 gives leaves (answer 11 2 0) (fresh_from 0 40)
    -- interval op 11
    ∷ to_check (nodes ((2 ∷ 0 ∷ 0 ∷ 0 ∷ 4 ∷ 0 ∷ 2 ∷ 65531 ∷ 65531 ∷ 4 ∷ 6 ∷ []) ∷ (2 ∷ 0 ∷ 0 ∷ 0 ∷ 4 ∷ 2 ∷ 2 ∷ 32 ∷ 32 ∷ 4 ∷ 6 ∷ []) ∷ (22 ∷ 0 ∷ 2 ∷ []) ∷ [])) 40 gives leaves (answer 0 0 0) (words (4 ∷ 2 ∷ 65531 ∷ 65531 ∷ 4 ∷ 6 ∷ 0 ∷ 0 ∷ 4 ∷ 2 ∷ 32 ∷ 32 ∷ 4 ∷ 6 ∷ 0 ∷ 0 ∷ 4 ∷ 2 ∷ 32 ∷ 32 ∷ 4 ∷ 6 ∷ 0 ∷ 0 ∷ []) ++ fresh_from 24 16)
    -- interval op 12
    ∷ to_check (nodes ((2 ∷ 0 ∷ 0 ∷ 0 ∷ 2 ∷ 0 ∷ 2 ∷ 0 ∷ 4 ∷ 4 ∷ 6 ∷ []) ∷ (2 ∷ 0 ∷ 0 ∷ 0 ∷ 2 ∷ 2 ∷ 2 ∷ 2 ∷ 18 ∷ 4 ∷ 6 ∷ []) ∷ (24 ∷ 0 ∷ 2 ∷ []) ∷ [])) 40 gives leaves (answer 0 0 0) (words (2 ∷ 2 ∷ 0 ∷ 4 ∷ 4 ∷ 6 ∷ 0 ∷ 0 ∷ 2 ∷ 2 ∷ 2 ∷ 18 ∷ 4 ∷ 6 ∷ 0 ∷ 0 ∷ 2 ∷ 2 ∷ 0 ∷ 4 ∷ 4 ∷ 6 ∷ 0 ∷ 0 ∷ []) ++ fresh_from 24 16)
    -- interval op 13
    ∷ to_check (nodes ((2 ∷ 0 ∷ 0 ∷ 0 ∷ 2 ∷ 0 ∷ 2 ∷ 2 ∷ 510 ∷ 4 ∷ 6 ∷ []) ∷ (2 ∷ 0 ∷ 0 ∷ 0 ∷ 2 ∷ 2 ∷ 2 ∷ 510 ∷ 510 ∷ 4 ∷ 6 ∷ []) ∷ (26 ∷ 0 ∷ 2 ∷ []) ∷ [])) 40 gives leaves (answer 0 0 0) (words (2 ∷ 2 ∷ 2 ∷ 510 ∷ 4 ∷ 6 ∷ 0 ∷ 0 ∷ 2 ∷ 2 ∷ 510 ∷ 510 ∷ 4 ∷ 6 ∷ 0 ∷ 0 ∷ 2 ∷ 2 ∷ 0 ∷ 508 ∷ 4 ∷ 6 ∷ 0 ∷ 0 ∷ []) ++ fresh_from 24 16)
    -- interval op 14
    ∷ to_check (nodes ((2 ∷ 0 ∷ 0 ∷ 0 ∷ 2 ∷ 0 ∷ 2 ∷ 0 ∷ 4 ∷ 4 ∷ 6 ∷ []) ∷ (2 ∷ 0 ∷ 0 ∷ 0 ∷ 2 ∷ 2 ∷ 2 ∷ 2 ∷ 4 ∷ 4 ∷ 6 ∷ []) ∷ (28 ∷ 0 ∷ 2 ∷ []) ∷ [])) 40 gives leaves (answer 0 0 0) (words (2 ∷ 2 ∷ 0 ∷ 4 ∷ 4 ∷ 6 ∷ 0 ∷ 0 ∷ 2 ∷ 2 ∷ 2 ∷ 4 ∷ 4 ∷ 6 ∷ 0 ∷ 0 ∷ 0 ∷ 2 ∷ 0 ∷ 2 ∷ 4 ∷ 6 ∷ 0 ∷ 0 ∷ []) ++ fresh_from 24 16)
    -- interval op 18
    ∷ to_check (nodes ((2 ∷ 0 ∷ 0 ∷ 0 ∷ 0 ∷ 0 ∷ 2 ∷ 0 ∷ 0 ∷ 4 ∷ 6 ∷ []) ∷ (2 ∷ 0 ∷ 0 ∷ 0 ∷ 4 ∷ 2 ∷ 2 ∷ 65533 ∷ 65533 ∷ 4 ∷ 6 ∷ []) ∷ (2 ∷ 0 ∷ 0 ∷ 0 ∷ 4 ∷ 4 ∷ 2 ∷ 32 ∷ 65532 ∷ 4 ∷ 6 ∷ []) ∷ (36 ∷ 0 ∷ 2 ∷ 4 ∷ []) ∷ [])) 40 gives leaves (answer 0 0 0) (words (0 ∷ 2 ∷ 0 ∷ 0 ∷ 4 ∷ 6 ∷ 0 ∷ 0 ∷ 4 ∷ 2 ∷ 65533 ∷ 65533 ∷ 4 ∷ 6 ∷ 0 ∷ 0 ∷ 4 ∷ 2 ∷ 32 ∷ 65532 ∷ 4 ∷ 6 ∷ 0 ∷ 0 ∷ 4 ∷ 2 ∷ 65533 ∷ 65532 ∷ 4 ∷ 6 ∷ 0 ∷ 0 ∷ []) ++ fresh_from 32 8)
    -- interval op 19
    ∷ to_check (nodes ((2 ∷ 0 ∷ 0 ∷ 0 ∷ 6 ∷ 0 ∷ 2 ∷ 13 ∷ 4 ∷ 4 ∷ 6 ∷ []) ∷ (38 ∷ []) ∷ [])) 40 gives leaves (answer 0 0 0) (words (6 ∷ 2 ∷ 13 ∷ 4 ∷ 4 ∷ 6 ∷ 0 ∷ 0 ∷ 6 ∷ 2 ∷ 13 ∷ 4 ∷ 4 ∷ 6 ∷ 0 ∷ 0 ∷ []) ++ fresh_from 16 24)
    -- interval op 8
    ∷ to_check (nodes ((2 ∷ 0 ∷ 0 ∷ 0 ∷ 4 ∷ 0 ∷ 2 ∷ 2 ∷ 18 ∷ 4 ∷ 6 ∷ []) ∷ (16 ∷ 0 ∷ 0 ∷ 0 ∷ 2 ∷ []) ∷ [])) 40 gives leaves (answer 0 0 0) (words (4 ∷ 2 ∷ 2 ∷ 18 ∷ 4 ∷ 6 ∷ 0 ∷ 0 ∷ 2 ∷ 2 ∷ 2 ∷ 18 ∷ 4 ∷ 6 ∷ 0 ∷ 0 ∷ []) ++ fresh_from 16 24)
    -- interval op 17
    ∷ to_check (nodes ((2 ∷ 0 ∷ 0 ∷ 0 ∷ 0 ∷ 0 ∷ 2 ∷ 0 ∷ 2 ∷ 4 ∷ 6 ∷ []) ∷ (2 ∷ 0 ∷ 0 ∷ 0 ∷ 0 ∷ 2 ∷ 2 ∷ 2 ∷ 2 ∷ 4 ∷ 6 ∷ []) ∷ (34 ∷ 0 ∷ 2 ∷ []) ∷ [])) 40 gives leaves (answer 0 0 0) (words (0 ∷ 2 ∷ 0 ∷ 2 ∷ 4 ∷ 6 ∷ 0 ∷ 0 ∷ 0 ∷ 2 ∷ 2 ∷ 2 ∷ 4 ∷ 6 ∷ 0 ∷ 0 ∷ 0 ∷ 2 ∷ 2 ∷ 2 ∷ 4 ∷ 6 ∷ 0 ∷ 0 ∷ []) ++ fresh_from 24 16)
    -- interval op 21
    ∷ to_check (nodes ((2 ∷ 0 ∷ 0 ∷ 0 ∷ 6 ∷ 0 ∷ 2 ∷ 2 ∷ 4 ∷ 4 ∷ 6 ∷ []) ∷ (2 ∷ 0 ∷ 0 ∷ 0 ∷ 6 ∷ 2 ∷ 2 ∷ 0 ∷ 4 ∷ 4 ∷ 6 ∷ []) ∷ (42 ∷ 0 ∷ 2 ∷ []) ∷ [])) 40 gives leaves (answer 0 0 0) (words (6 ∷ 2 ∷ 2 ∷ 4 ∷ 4 ∷ 6 ∷ 0 ∷ 0 ∷ 6 ∷ 2 ∷ 0 ∷ 4 ∷ 4 ∷ 6 ∷ 0 ∷ 0 ∷ 6 ∷ 2 ∷ 0 ∷ 4 ∷ 4 ∷ 6 ∷ 0 ∷ 0 ∷ []) ++ fresh_from 24 16)
    -- interval op 23
    ∷ to_check (nodes ((2 ∷ 0 ∷ 0 ∷ 0 ∷ 2 ∷ 0 ∷ 2 ∷ 10 ∷ 32 ∷ 4 ∷ 6 ∷ []) ∷ (2 ∷ 0 ∷ 0 ∷ 0 ∷ 2 ∷ 2 ∷ 2 ∷ 0 ∷ 4 ∷ 4 ∷ 6 ∷ []) ∷ (2 ∷ 0 ∷ 0 ∷ 0 ∷ 2 ∷ 4 ∷ 2 ∷ 0 ∷ 0 ∷ 4 ∷ 6 ∷ []) ∷ (46 ∷ 0 ∷ 2 ∷ 4 ∷ 0 ∷ 6 ∷ []) ∷ [])) 40 gives leaves (answer 0 0 0) (words (2 ∷ 2 ∷ 10 ∷ 32 ∷ 4 ∷ 6 ∷ 0 ∷ 0 ∷ 2 ∷ 2 ∷ 0 ∷ 4 ∷ 4 ∷ 6 ∷ 0 ∷ 0 ∷ 2 ∷ 2 ∷ 0 ∷ 0 ∷ 4 ∷ 6 ∷ 0 ∷ 0 ∷ 2 ∷ 2 ∷ 0 ∷ 32 ∷ 6 ∷ 4 ∷ 6 ∷ 0 ∷ []) ++ fresh_from 32 8)
    -- interval op 9
    ∷ to_check (nodes ((2 ∷ 0 ∷ 0 ∷ 0 ∷ 2 ∷ 0 ∷ 2 ∷ 32 ∷ 508 ∷ 4 ∷ 6 ∷ []) ∷ (2 ∷ 0 ∷ 0 ∷ 0 ∷ 2 ∷ 2 ∷ 2 ∷ 0 ∷ 0 ∷ 4 ∷ 6 ∷ []) ∷ (18 ∷ 0 ∷ 2 ∷ []) ∷ [])) 40 gives leaves (answer 0 0 0) (words (2 ∷ 2 ∷ 32 ∷ 508 ∷ 4 ∷ 6 ∷ 0 ∷ 0 ∷ 2 ∷ 2 ∷ 0 ∷ 0 ∷ 4 ∷ 6 ∷ 0 ∷ 0 ∷ 2 ∷ 2 ∷ 32 ∷ 508 ∷ 4 ∷ 6 ∷ 0 ∷ 0 ∷ []) ++ fresh_from 24 16)
    -- interval op 10
    ∷ to_check (nodes ((2 ∷ 0 ∷ 0 ∷ 0 ∷ 2 ∷ 0 ∷ 2 ∷ 510 ∷ 510 ∷ 4 ∷ 6 ∷ []) ∷ (2 ∷ 0 ∷ 0 ∷ 0 ∷ 2 ∷ 2 ∷ 2 ∷ 0 ∷ 2 ∷ 4 ∷ 6 ∷ []) ∷ (20 ∷ 0 ∷ 2 ∷ []) ∷ [])) 40 gives leaves (answer 0 0 0) (words (2 ∷ 2 ∷ 510 ∷ 510 ∷ 4 ∷ 6 ∷ 0 ∷ 0 ∷ 2 ∷ 2 ∷ 0 ∷ 2 ∷ 4 ∷ 6 ∷ 0 ∷ 0 ∷ 2 ∷ 2 ∷ 0 ∷ 510 ∷ 4 ∷ 6 ∷ 0 ∷ 0 ∷ []) ++ fresh_from 24 16)
    -- interval op 12
    ∷ to_check (nodes ((2 ∷ 0 ∷ 0 ∷ 0 ∷ 6 ∷ 0 ∷ 2 ∷ 1 ∷ 4294967294 ∷ 4 ∷ 6 ∷ []) ∷ (2 ∷ 0 ∷ 0 ∷ 0 ∷ 6 ∷ 2 ∷ 2 ∷ 2 ∷ 4 ∷ 4 ∷ 6 ∷ []) ∷ (24 ∷ 0 ∷ 2 ∷ []) ∷ [])) 40 gives leaves (answer 0 0 0) (words (6 ∷ 2 ∷ 1 ∷ 4294967294 ∷ 4 ∷ 6 ∷ 0 ∷ 0 ∷ 6 ∷ 2 ∷ 2 ∷ 4 ∷ 4 ∷ 6 ∷ 0 ∷ 0 ∷ 6 ∷ 2 ∷ 1 ∷ 4294967294 ∷ 4 ∷ 6 ∷ 0 ∷ 0 ∷ []) ++ fresh_from 24 16)
    -- interval op 8
    ∷ to_check (nodes ((2 ∷ 0 ∷ 0 ∷ 0 ∷ 0 ∷ 0 ∷ 2 ∷ 0 ∷ 0 ∷ 4 ∷ 6 ∷ []) ∷ (16 ∷ []) ∷ [])) 40 gives leaves (answer 0 0 0) (words (0 ∷ 2 ∷ 0 ∷ 0 ∷ 4 ∷ 6 ∷ 0 ∷ 0 ∷ 0 ∷ 2 ∷ 0 ∷ 0 ∷ 4 ∷ 6 ∷ 0 ∷ 0 ∷ []) ++ fresh_from 16 24)
    -- interval op 9
    ∷ to_check (nodes ((2 ∷ 0 ∷ 0 ∷ 0 ∷ 2 ∷ 0 ∷ 2 ∷ 508 ∷ 510 ∷ 4 ∷ 6 ∷ []) ∷ (2 ∷ 0 ∷ 0 ∷ 0 ∷ 2 ∷ 2 ∷ 2 ∷ 2 ∷ 510 ∷ 4 ∷ 6 ∷ []) ∷ (18 ∷ 0 ∷ 2 ∷ []) ∷ [])) 40 gives leaves (answer 11 2 0) (fresh_from 0 40)
    -- interval op 10
    ∷ to_check (nodes ((2 ∷ 0 ∷ 0 ∷ 0 ∷ 6 ∷ 0 ∷ 2 ∷ 10 ∷ 508 ∷ 4 ∷ 6 ∷ []) ∷ (2 ∷ 0 ∷ 0 ∷ 0 ∷ 6 ∷ 2 ∷ 2 ∷ 4 ∷ 4 ∷ 4 ∷ 6 ∷ []) ∷ (20 ∷ 0 ∷ 2 ∷ []) ∷ [])) 40 gives leaves (answer 0 0 0) (words (6 ∷ 2 ∷ 10 ∷ 508 ∷ 4 ∷ 6 ∷ 0 ∷ 0 ∷ 6 ∷ 2 ∷ 4 ∷ 4 ∷ 4 ∷ 6 ∷ 0 ∷ 0 ∷ 6 ∷ 2 ∷ 20 ∷ 1016 ∷ 4 ∷ 6 ∷ 0 ∷ 0 ∷ []) ++ fresh_from 24 16)
    -- interval op 11
    ∷ to_check (nodes ((2 ∷ 0 ∷ 0 ∷ 0 ∷ 6 ∷ 0 ∷ 2 ∷ 18 ∷ 32 ∷ 4 ∷ 6 ∷ []) ∷ (2 ∷ 0 ∷ 0 ∷ 0 ∷ 6 ∷ 2 ∷ 2 ∷ 13 ∷ 4 ∷ 4 ∷ 6 ∷ []) ∷ (22 ∷ 0 ∷ 2 ∷ []) ∷ [])) 40 gives leaves (answer 0 0 0) (words (6 ∷ 2 ∷ 18 ∷ 32 ∷ 4 ∷ 6 ∷ 0 ∷ 0 ∷ 6 ∷ 2 ∷ 13 ∷ 4 ∷ 4 ∷ 6 ∷ 0 ∷ 0 ∷ 6 ∷ 2 ∷ 18 ∷ 32 ∷ 4 ∷ 6 ∷ 0 ∷ 0 ∷ []) ++ fresh_from 24 16)
    -- interval op 12
    ∷ to_check (nodes ((2 ∷ 0 ∷ 0 ∷ 0 ∷ 4 ∷ 0 ∷ 2 ∷ 2 ∷ 10 ∷ 4 ∷ 6 ∷ []) ∷ (2 ∷ 0 ∷ 0 ∷ 0 ∷ 4 ∷ 2 ∷ 2 ∷ 1 ∷ 1 ∷ 4 ∷ 6 ∷ []) ∷ (24 ∷ 0 ∷ 2 ∷ []) ∷ [])) 40 gives leaves (answer 0 0 0) (words (4 ∷ 2 ∷ 2 ∷ 10 ∷ 4 ∷ 6 ∷ 0 ∷ 0 ∷ 4 ∷ 2 ∷ 1 ∷ 1 ∷ 4 ∷ 6 ∷ 0 ∷ 0 ∷ 4 ∷ 2 ∷ 9 ∷ 1 ∷ 4 ∷ 6 ∷ 0 ∷ 0 ∷ []) ++ fresh_from 24 16)
    -- interval op 13
    ∷ to_check (nodes ((2 ∷ 0 ∷ 0 ∷ 0 ∷ 2 ∷ 0 ∷ 2 ∷ 2 ∷ 10 ∷ 4 ∷ 6 ∷ []) ∷ (2 ∷ 0 ∷ 0 ∷ 0 ∷ 2 ∷ 2 ∷ 2 ∷ 2 ∷ 2 ∷ 4 ∷ 6 ∷ []) ∷ (26 ∷ 0 ∷ 2 ∷ []) ∷ [])) 40 gives leaves (answer 0 0 0) (words (2 ∷ 2 ∷ 2 ∷ 10 ∷ 4 ∷ 6 ∷ 0 ∷ 0 ∷ 2 ∷ 2 ∷ 2 ∷ 2 ∷ 4 ∷ 6 ∷ 0 ∷ 0 ∷ 2 ∷ 2 ∷ 0 ∷ 0 ∷ 4 ∷ 6 ∷ 0 ∷ 0 ∷ []) ++ fresh_from 24 16)
    -- interval op 14
    ∷ to_check (nodes ((2 ∷ 0 ∷ 0 ∷ 0 ∷ 6 ∷ 0 ∷ 2 ∷ 1 ∷ 1 ∷ 4 ∷ 6 ∷ []) ∷ (2 ∷ 0 ∷ 0 ∷ 0 ∷ 6 ∷ 2 ∷ 2 ∷ 3 ∷ 65532 ∷ 4 ∷ 6 ∷ []) ∷ (28 ∷ 0 ∷ 2 ∷ []) ∷ [])) 40 gives leaves (answer 0 0 0) (words (6 ∷ 2 ∷ 1 ∷ 1 ∷ 4 ∷ 6 ∷ 0 ∷ 0 ∷ 6 ∷ 2 ∷ 3 ∷ 65532 ∷ 4 ∷ 6 ∷ 0 ∷ 0 ∷ 0 ∷ 2 ∷ 0 ∷ 2 ∷ 4 ∷ 6 ∷ 0 ∷ 0 ∷ []) ++ fresh_from 24 16)
    -- interval op 15
    ∷ to_check (nodes ((2 ∷ 0 ∷ 0 ∷ 0 ∷ 0 ∷ 0 ∷ 2 ∷ 2 ∷ 2 ∷ 4 ∷ 6 ∷ []) ∷ (2 ∷ 0 ∷ 0 ∷ 0 ∷ 0 ∷ 2 ∷ 2 ∷ 0 ∷ 0 ∷ 4 ∷ 6 ∷ []) ∷ (30 ∷ 0 ∷ 2 ∷ []) ∷ [])) 40 gives leaves (answer 0 0 0) (words (0 ∷ 2 ∷ 2 ∷ 2 ∷ 4 ∷ 6 ∷ 0 ∷ 0 ∷ 0 ∷ 2 ∷ 0 ∷ 0 ∷ 4 ∷ 6 ∷ 0 ∷ 0 ∷ 0 ∷ 2 ∷ 2 ∷ 2 ∷ 4 ∷ 6 ∷ 0 ∷ 0 ∷ []) ++ fresh_from 24 16)
    -- interval op 18
    ∷ to_check (nodes ((2 ∷ 0 ∷ 0 ∷ 0 ∷ 0 ∷ 0 ∷ 2 ∷ 2 ∷ 2 ∷ 4 ∷ 6 ∷ []) ∷ (2 ∷ 0 ∷ 0 ∷ 0 ∷ 2 ∷ 2 ∷ 2 ∷ 0 ∷ 2 ∷ 4 ∷ 6 ∷ []) ∷ (2 ∷ 0 ∷ 0 ∷ 0 ∷ 2 ∷ 4 ∷ 2 ∷ 2 ∷ 32 ∷ 4 ∷ 6 ∷ []) ∷ (36 ∷ 0 ∷ 2 ∷ 4 ∷ []) ∷ [])) 40 gives leaves (answer 0 0 0) (words (0 ∷ 2 ∷ 2 ∷ 2 ∷ 4 ∷ 6 ∷ 0 ∷ 0 ∷ 2 ∷ 2 ∷ 0 ∷ 2 ∷ 4 ∷ 6 ∷ 0 ∷ 0 ∷ 2 ∷ 2 ∷ 2 ∷ 32 ∷ 4 ∷ 6 ∷ 0 ∷ 0 ∷ 2 ∷ 2 ∷ 0 ∷ 32 ∷ 4 ∷ 6 ∷ 0 ∷ 0 ∷ []) ++ fresh_from 32 8)
    -- interval op 19
    ∷ to_check (nodes ((2 ∷ 0 ∷ 0 ∷ 0 ∷ 6 ∷ 0 ∷ 2 ∷ 4294967293 ∷ 510 ∷ 4 ∷ 6 ∷ []) ∷ (38 ∷ 0 ∷ 0 ∷ 0 ∷ 0 ∷ 0 ∷ 0 ∷ 0 ∷ 0 ∷ 2 ∷ []) ∷ [])) 40 gives leaves (answer 11 1 0) (fresh_from 0 40)
    -- interval op 8
    ∷ to_check (nodes ((2 ∷ 0 ∷ 0 ∷ 0 ∷ 6 ∷ 0 ∷ 2 ∷ 4294967293 ∷ 4294967293 ∷ 4 ∷ 6 ∷ []) ∷ (16 ∷ []) ∷ [])) 40 gives leaves (answer 11 1 0) (fresh_from 0 40)
    -- interval op 16
    ∷ to_check (nodes ((2 ∷ 0 ∷ 0 ∷ 0 ∷ 0 ∷ 0 ∷ 2 ∷ 0 ∷ 0 ∷ 4 ∷ 6 ∷ []) ∷ (2 ∷ 0 ∷ 0 ∷ 0 ∷ 0 ∷ 2 ∷ 2 ∷ 2 ∷ 2 ∷ 4 ∷ 6 ∷ []) ∷ (32 ∷ 0 ∷ 2 ∷ []) ∷ [])) 40 gives leaves (answer 0 0 0) (words (0 ∷ 2 ∷ 0 ∷ 0 ∷ 4 ∷ 6 ∷ 0 ∷ 0 ∷ 0 ∷ 2 ∷ 2 ∷ 2 ∷ 4 ∷ 6 ∷ 0 ∷ 0 ∷ 0 ∷ 2 ∷ 0 ∷ 0 ∷ 4 ∷ 6 ∷ 0 ∷ 0 ∷ []) ++ fresh_from 24 16)
    -- interval op 17
    ∷ to_check (nodes ((2 ∷ 0 ∷ 0 ∷ 0 ∷ 0 ∷ 0 ∷ 2 ∷ 0 ∷ 0 ∷ 4 ∷ 6 ∷ []) ∷ (2 ∷ 0 ∷ 0 ∷ 0 ∷ 0 ∷ 2 ∷ 2 ∷ 2 ∷ 2 ∷ 4 ∷ 6 ∷ []) ∷ (34 ∷ 0 ∷ 2 ∷ []) ∷ [])) 40 gives leaves (answer 0 0 0) (words (0 ∷ 2 ∷ 0 ∷ 0 ∷ 4 ∷ 6 ∷ 0 ∷ 0 ∷ 0 ∷ 2 ∷ 2 ∷ 2 ∷ 4 ∷ 6 ∷ 0 ∷ 0 ∷ 0 ∷ 2 ∷ 2 ∷ 2 ∷ 4 ∷ 6 ∷ 0 ∷ 0 ∷ []) ++ fresh_from 24 16)
    -- interval op 21
    ∷ to_check (nodes ((2 ∷ 0 ∷ 0 ∷ 0 ∷ 6 ∷ 0 ∷ 2 ∷ 5 ∷ 4 ∷ 4 ∷ 6 ∷ []) ∷ (2 ∷ 0 ∷ 0 ∷ 0 ∷ 6 ∷ 2 ∷ 2 ∷ 3 ∷ 3 ∷ 4 ∷ 6 ∷ []) ∷ (42 ∷ 0 ∷ 2 ∷ []) ∷ [])) 40 gives leaves (answer 0 0 0) (words (6 ∷ 2 ∷ 5 ∷ 4 ∷ 4 ∷ 6 ∷ 0 ∷ 0 ∷ 6 ∷ 2 ∷ 3 ∷ 3 ∷ 4 ∷ 6 ∷ 0 ∷ 0 ∷ 6 ∷ 2 ∷ 5 ∷ 4 ∷ 4 ∷ 6 ∷ 0 ∷ 0 ∷ []) ++ fresh_from 24 16)
    -- interval op 23
    ∷ to_check (nodes ((2 ∷ 0 ∷ 0 ∷ 0 ∷ 2 ∷ 0 ∷ 2 ∷ 0 ∷ 510 ∷ 4 ∷ 6 ∷ []) ∷ (2 ∷ 0 ∷ 0 ∷ 0 ∷ 2 ∷ 2 ∷ 2 ∷ 4 ∷ 4 ∷ 4 ∷ 6 ∷ []) ∷ (2 ∷ 0 ∷ 0 ∷ 0 ∷ 2 ∷ 4 ∷ 2 ∷ 10 ∷ 32 ∷ 4 ∷ 6 ∷ []) ∷ (46 ∷ 0 ∷ 2 ∷ 4 ∷ 0 ∷ 6 ∷ []) ∷ [])) 40 gives leaves (answer 0 0 0) (words (2 ∷ 2 ∷ 0 ∷ 510 ∷ 4 ∷ 6 ∷ 0 ∷ 0 ∷ 2 ∷ 2 ∷ 4 ∷ 4 ∷ 4 ∷ 6 ∷ 0 ∷ 0 ∷ 2 ∷ 2 ∷ 10 ∷ 32 ∷ 4 ∷ 6 ∷ 0 ∷ 0 ∷ 2 ∷ 2 ∷ 0 ∷ 510 ∷ 6 ∷ 4 ∷ 6 ∷ 0 ∷ []) ++ fresh_from 32 8)
    -- interval op 9
    ∷ to_check (nodes ((2 ∷ 0 ∷ 0 ∷ 0 ∷ 6 ∷ 0 ∷ 2 ∷ 1 ∷ 18 ∷ 4 ∷ 6 ∷ []) ∷ (2 ∷ 0 ∷ 0 ∷ 0 ∷ 6 ∷ 2 ∷ 2 ∷ 3 ∷ 4 ∷ 4 ∷ 6 ∷ []) ∷ (18 ∷ 0 ∷ 2 ∷ []) ∷ [])) 40 gives leaves (answer 0 0 0) (words (6 ∷ 2 ∷ 1 ∷ 18 ∷ 4 ∷ 6 ∷ 0 ∷ 0 ∷ 6 ∷ 2 ∷ 3 ∷ 4 ∷ 4 ∷ 6 ∷ 0 ∷ 0 ∷ 6 ∷ 2 ∷ 5 ∷ 22 ∷ 4 ∷ 6 ∷ 0 ∷ 0 ∷ []) ++ fresh_from 24 16)
    -- interval op 10
    ∷ to_check (nodes ((2 ∷ 0 ∷ 0 ∷ 0 ∷ 6 ∷ 0 ∷ 2 ∷ 4 ∷ 65532 ∷ 4 ∷ 6 ∷ []) ∷ (2 ∷ 0 ∷ 0 ∷ 0 ∷ 6 ∷ 2 ∷ 2 ∷ 3 ∷ 65536 ∷ 4 ∷ 6 ∷ []) ∷ (20 ∷ 0 ∷ 2 ∷ []) ∷ [])) 40 gives leaves (answer 0 0 0) (words (6 ∷ 2 ∷ 4 ∷ 65532 ∷ 4 ∷ 6 ∷ 0 ∷ 0 ∷ 6 ∷ 2 ∷ 3 ∷ 65536 ∷ 4 ∷ 6 ∷ 0 ∷ 0 ∷ 6 ∷ 2 ∷ 131063 ∷ 2147352576 ∷ 4 ∷ 6 ∷ 0 ∷ 0 ∷ []) ++ fresh_from 24 16)
    -- interval op 12
    ∷ to_check (nodes ((2 ∷ 0 ∷ 0 ∷ 0 ∷ 2 ∷ 0 ∷ 2 ∷ 2 ∷ 32 ∷ 4 ∷ 6 ∷ []) ∷ (2 ∷ 0 ∷ 0 ∷ 0 ∷ 2 ∷ 2 ∷ 2 ∷ 508 ∷ 510 ∷ 4 ∷ 6 ∷ []) ∷ (24 ∷ 0 ∷ 2 ∷ []) ∷ [])) 40 gives leaves (answer 0 0 0) (words (2 ∷ 2 ∷ 2 ∷ 32 ∷ 4 ∷ 6 ∷ 0 ∷ 0 ∷ 2 ∷ 2 ∷ 508 ∷ 510 ∷ 4 ∷ 6 ∷ 0 ∷ 0 ∷ 2 ∷ 2 ∷ 0 ∷ 0 ∷ 4 ∷ 6 ∷ 0 ∷ 0 ∷ []) ++ fresh_from 24 16)
    -- interval op 8
    ∷ to_check (nodes ((2 ∷ 0 ∷ 0 ∷ 0 ∷ 6 ∷ 0 ∷ 2 ∷ 3 ∷ 10 ∷ 4 ∷ 6 ∷ []) ∷ (16 ∷ 0 ∷ 0 ∷ 0 ∷ 6 ∷ []) ∷ [])) 40 gives leaves (answer 0 0 0) (words (6 ∷ 2 ∷ 3 ∷ 10 ∷ 4 ∷ 6 ∷ 0 ∷ 0 ∷ 6 ∷ 2 ∷ 3 ∷ 10 ∷ 4 ∷ 6 ∷ 0 ∷ 0 ∷ []) ++ fresh_from 16 24)
    -- PARAM (1048576,)
    ∷ to_check (nodes ((2 ∷ 0 ∷ 0 ∷ 0 ∷ 6 ∷ 0 ∷ 2 ∷ 0 ∷ 2 ∷ 2097152 ∷ []) ∷ [])) 8 gives leaves (answer 0 0 0) (words (6 ∷ 2 ∷ 0 ∷ 2 ∷ 2097152 ∷ 0 ∷ 0 ∷ 0 ∷ []))
    -- PARAM (1048576, 1, 1)
    ∷ to_check (nodes ((2 ∷ 0 ∷ 0 ∷ 0 ∷ 6 ∷ 0 ∷ 2 ∷ 0 ∷ 2 ∷ 2097152 ∷ 2 ∷ 2 ∷ []) ∷ [])) 8 gives leaves (answer 0 0 0) (words (6 ∷ 2 ∷ 0 ∷ 2 ∷ 2097152 ∷ 2 ∷ 2 ∷ 0 ∷ []))
    -- PARAM (1024, 1024)
    ∷ to_check (nodes ((2 ∷ 0 ∷ 0 ∷ 0 ∷ 6 ∷ 0 ∷ 2 ∷ 0 ∷ 2 ∷ 2048 ∷ 2048 ∷ []) ∷ [])) 8 gives leaves (answer 0 0 0) (words (6 ∷ 2 ∷ 0 ∷ 2 ∷ 2048 ∷ 2048 ∷ 0 ∷ 0 ∷ []))
    -- PARAM (32, 32, 32, 32)
    ∷ to_check (nodes ((2 ∷ 0 ∷ 0 ∷ 0 ∷ 6 ∷ 0 ∷ 2 ∷ 0 ∷ 2 ∷ 64 ∷ 64 ∷ 64 ∷ 64 ∷ []) ∷ [])) 8 gives leaves (answer 0 0 0) (words (6 ∷ 2 ∷ 0 ∷ 2 ∷ 64 ∷ 64 ∷ 64 ∷ 64 ∷ []))
    -- PARAM (17, 61681)
    ∷ to_check (nodes ((2 ∷ 0 ∷ 0 ∷ 0 ∷ 6 ∷ 0 ∷ 2 ∷ 0 ∷ 2 ∷ 34 ∷ 123362 ∷ []) ∷ [])) 8 gives leaves (answer 8 0 0) (fresh_from 0 8)
    -- PARAM (1024, 1025)
    ∷ to_check (nodes ((2 ∷ 0 ∷ 0 ∷ 0 ∷ 6 ∷ 0 ∷ 2 ∷ 0 ∷ 2 ∷ 2048 ∷ 2050 ∷ []) ∷ [])) 8 gives leaves (answer 8 0 0) (fresh_from 0 8)
    -- PARAM (1048576, 2)
    ∷ to_check (nodes ((2 ∷ 0 ∷ 0 ∷ 0 ∷ 6 ∷ 0 ∷ 2 ∷ 0 ∷ 2 ∷ 2097152 ∷ 4 ∷ []) ∷ [])) 8 gives leaves (answer 8 0 0) (fresh_from 0 8)
    -- PARAM (1048577,)
    ∷ to_check (nodes ((2 ∷ 0 ∷ 0 ∷ 0 ∷ 6 ∷ 0 ∷ 2 ∷ 0 ∷ 2 ∷ 2097154 ∷ []) ∷ [])) 8 gives leaves (answer 7 0 0) (fresh_from 0 8)
    -- PARAM (1048576, 1048576, 1048576, 1048576)
    ∷ to_check (nodes ((2 ∷ 0 ∷ 0 ∷ 0 ∷ 6 ∷ 0 ∷ 2 ∷ 0 ∷ 2 ∷ 2097152 ∷ 2097152 ∷ 2097152 ∷ 2097152 ∷ []) ∷ [])) 8 gives leaves (answer 8 0 0) (fresh_from 0 8)
    -- PARAM (1, 1048576, 1, 2)
    ∷ to_check (nodes ((2 ∷ 0 ∷ 0 ∷ 0 ∷ 6 ∷ 0 ∷ 2 ∷ 0 ∷ 2 ∷ 2 ∷ 2097152 ∷ 2 ∷ 4 ∷ []) ∷ [])) 8 gives leaves (answer 8 0 0) (fresh_from 0 8)
    -- PARAM ()
    ∷ to_check (nodes ((2 ∷ 0 ∷ 0 ∷ 0 ∷ 6 ∷ 0 ∷ 2 ∷ 0 ∷ 2 ∷ []) ∷ [])) 8 gives leaves (answer 0 0 0) (words (6 ∷ 2 ∷ 0 ∷ 2 ∷ 0 ∷ 0 ∷ 0 ∷ 0 ∷ []))
    -- EXPAND to (1024, 1024)
    ∷ to_check (nodes ((2 ∷ 0 ∷ 0 ∷ 0 ∷ 6 ∷ 0 ∷ 2 ∷ 0 ∷ 2 ∷ 2 ∷ 2 ∷ []) ∷ (10 ∷ 0 ∷ 0 ∷ 0 ∷ 0 ∷ 0 ∷ 0 ∷ 0 ∷ 0 ∷ 2048 ∷ 2048 ∷ []) ∷ [])) 16 gives leaves (answer 0 0 0) (words (6 ∷ 2 ∷ 0 ∷ 2 ∷ 2 ∷ 2 ∷ 0 ∷ 0 ∷ 6 ∷ 2 ∷ 0 ∷ 2 ∷ 2048 ∷ 2048 ∷ 0 ∷ 0 ∷ []))
    -- PAD to (1024, 1024)
    ∷ to_check (nodes ((2 ∷ 0 ∷ 0 ∷ 0 ∷ 6 ∷ 0 ∷ 2 ∷ 0 ∷ 2 ∷ 2 ∷ 2 ∷ []) ∷ (12 ∷ 0 ∷ 0 ∷ 0 ∷ 0 ∷ 0 ∷ 0 ∷ 0 ∷ 0 ∷ 2048 ∷ 2048 ∷ 0 ∷ 0 ∷ 2 ∷ []) ∷ [])) 16 gives leaves (answer 0 0 0) (words (6 ∷ 2 ∷ 0 ∷ 2 ∷ 2 ∷ 2 ∷ 0 ∷ 0 ∷ 6 ∷ 2 ∷ 0 ∷ 2 ∷ 2048 ∷ 2048 ∷ 0 ∷ 0 ∷ []))
    -- EXPAND to (17, 61681)
    ∷ to_check (nodes ((2 ∷ 0 ∷ 0 ∷ 0 ∷ 6 ∷ 0 ∷ 2 ∷ 0 ∷ 2 ∷ 2 ∷ 2 ∷ []) ∷ (10 ∷ 0 ∷ 0 ∷ 0 ∷ 0 ∷ 0 ∷ 0 ∷ 0 ∷ 0 ∷ 34 ∷ 123362 ∷ []) ∷ [])) 16 gives leaves (answer 8 1 0) (fresh_from 0 16)
    -- PAD to (17, 61681)
    ∷ to_check (nodes ((2 ∷ 0 ∷ 0 ∷ 0 ∷ 6 ∷ 0 ∷ 2 ∷ 0 ∷ 2 ∷ 2 ∷ 2 ∷ []) ∷ (12 ∷ 0 ∷ 0 ∷ 0 ∷ 0 ∷ 0 ∷ 0 ∷ 0 ∷ 0 ∷ 34 ∷ 123362 ∷ 0 ∷ 0 ∷ 2 ∷ []) ∷ [])) 16 gives leaves (answer 8 1 0) (fresh_from 0 16)
    ∷ []

pub table15_agrees : Agree table15
unfolding everything
table15_agrees = refl
