-- Written by tests/model/tables.py: change that script or cases.py, never this file.
use mathlib.Core.Path.{refl}
use mathlib.Core.List.{List, [], ◌∷◌}
use Rattle.guarantees.proofs.Everything.{everything}
use Rattle.agreement.specs.Cases.{words, nodes, fresh_from, to_check, leaves, answer, Case, ◌gives◌, Agree}

abbrev pub table36 : List Case
table36 =
    -- check of the three
    to_check (nodes ((2 ∷ 0 ∷ 0 ∷ 0 ∷ 6 ∷ 0 ∷ 2 ∷ 0 ∷ 2 ∷ 699050 ∷ []) ∷ (46 ∷ 0 ∷ 0 ∷ 0 ∷ 0 ∷ 6 ∷ []) ∷ [])) 16 gives leaves (answer 0 0 0) (words (6 ∷ 2 ∷ 0 ∷ 2 ∷ 699050 ∷ 0 ∷ 0 ∷ 0 ∷ 6 ∷ 2 ∷ 0 ∷ 2 ∷ 6 ∷ 699050 ∷ 0 ∷ 0 ∷ []))
    -- check of the three
    ∷ to_check (nodes ((2 ∷ 0 ∷ 0 ∷ 0 ∷ 6 ∷ 0 ∷ 2 ∷ 0 ∷ 2 ∷ 699052 ∷ []) ∷ (46 ∷ 0 ∷ 0 ∷ 0 ∷ 0 ∷ 6 ∷ []) ∷ [])) 16 gives leaves (answer 8 1 0) (fresh_from 0 16)
    -- check of the three
    ∷ to_check (nodes ((2 ∷ 0 ∷ 0 ∷ 0 ∷ 6 ∷ 0 ∷ 2 ∷ 0 ∷ 2 ∷ 2097152 ∷ []) ∷ (46 ∷ 0 ∷ 0 ∷ 0 ∷ 0 ∷ 4 ∷ []) ∷ [])) 16 gives leaves (answer 8 1 0) (fresh_from 0 16)
    -- check of the three
    ∷ to_check (nodes ((2 ∷ 0 ∷ 0 ∷ 0 ∷ 6 ∷ 0 ∷ 2 ∷ 0 ∷ 2 ∷ 34 ∷ 2 ∷ []) ∷ (2 ∷ 0 ∷ 0 ∷ 0 ∷ 6 ∷ 2 ∷ 2 ∷ 0 ∷ 2 ∷ 123362 ∷ []) ∷ (42 ∷ 0 ∷ 2 ∷ []) ∷ [])) 24 gives leaves (answer 8 2 0) (fresh_from 0 24)
    -- check of the three
    ∷ to_check (nodes ((2 ∷ 0 ∷ 0 ∷ 0 ∷ 6 ∷ 0 ∷ 2 ∷ 0 ∷ 2 ∷ 34 ∷ 2 ∷ []) ∷ (2 ∷ 0 ∷ 0 ∷ 0 ∷ 6 ∷ 2 ∷ 2 ∷ 0 ∷ 2 ∷ 123362 ∷ []) ∷ (42 ∷ 2 ∷ []) ∷ [])) 24 gives leaves (answer 8 2 0) (fresh_from 0 24)
    -- check of the three
    ∷ to_check (nodes ((2 ∷ 0 ∷ 0 ∷ 0 ∷ 6 ∷ 0 ∷ 2 ∷ 0 ∷ 2 ∷ 2048 ∷ 2 ∷ []) ∷ (2 ∷ 0 ∷ 0 ∷ 0 ∷ 6 ∷ 2 ∷ 2 ∷ 0 ∷ 2 ∷ 2048 ∷ []) ∷ (42 ∷ 0 ∷ 2 ∷ []) ∷ (44 ∷ 4 ∷ []) ∷ [])) 32 gives leaves (answer 0 0 0) (words (6 ∷ 2 ∷ 0 ∷ 2 ∷ 2048 ∷ 2 ∷ 0 ∷ 0 ∷ 6 ∷ 2 ∷ 0 ∷ 2 ∷ 2048 ∷ 0 ∷ 0 ∷ 0 ∷ 6 ∷ 2 ∷ 0 ∷ 2 ∷ 2048 ∷ 2048 ∷ 0 ∷ 0 ∷ 0 ∷ 2 ∷ 0 ∷ 2 ∷ 2048 ∷ 2048 ∷ 0 ∷ 0 ∷ []))
    -- check of the three
    ∷ to_check (nodes ((2 ∷ 0 ∷ 0 ∷ 0 ∷ 6 ∷ 0 ∷ 18 ∷ 197 ∷ 198 ∷ 8 ∷ []) ∷ (2 ∷ 0 ∷ 0 ∷ 0 ∷ 4 ∷ 2 ∷ 2 ∷ 17 ∷ 2 ∷ 4 ∷ []) ∷ (2 ∷ 0 ∷ 0 ∷ 0 ∷ 4 ∷ 4 ∷ 2 ∷ 1 ∷ 18 ∷ 4 ∷ []) ∷ (46 ∷ 2 ∷ 4 ∷ 0 ∷ 0 ∷ 4 ∷ []) ∷ [])) 32 gives leaves (answer 0 0 0) (words (6 ∷ 18 ∷ 197 ∷ 198 ∷ 8 ∷ 0 ∷ 0 ∷ 0 ∷ 4 ∷ 2 ∷ 17 ∷ 2 ∷ 4 ∷ 0 ∷ 0 ∷ 0 ∷ 4 ∷ 2 ∷ 1 ∷ 18 ∷ 4 ∷ 0 ∷ 0 ∷ 0 ∷ 4 ∷ 2 ∷ 17 ∷ 18 ∷ 4 ∷ 4 ∷ 0 ∷ 0 ∷ []))
    -- check of the three
    ∷ to_check (nodes ((2 ∷ 0 ∷ 0 ∷ 0 ∷ 6 ∷ 0 ∷ 18 ∷ 197 ∷ 198 ∷ 8 ∷ []) ∷ (2 ∷ 0 ∷ 0 ∷ 0 ∷ 4 ∷ 2 ∷ 2 ∷ 17 ∷ 2 ∷ 4 ∷ []) ∷ (2 ∷ 0 ∷ 0 ∷ 0 ∷ 4 ∷ 4 ∷ 2 ∷ 1 ∷ 18 ∷ 4 ∷ []) ∷ (46 ∷ 2 ∷ 4 ∷ 2 ∷ 0 ∷ 4 ∷ []) ∷ [])) 32 gives leaves (answer 7 3 0) (fresh_from 0 32)
    -- check of the three
    ∷ to_check (nodes ((2 ∷ 0 ∷ 0 ∷ 0 ∷ 6 ∷ 0 ∷ 18 ∷ 197 ∷ 198 ∷ 8 ∷ []) ∷ (2 ∷ 0 ∷ 0 ∷ 0 ∷ 4 ∷ 2 ∷ 2 ∷ 17 ∷ 2 ∷ 4 ∷ []) ∷ (2 ∷ 0 ∷ 0 ∷ 0 ∷ 4 ∷ 4 ∷ 2 ∷ 1 ∷ 18 ∷ 4 ∷ []) ∷ (46 ∷ 2 ∷ 4 ∷ 4 ∷ 0 ∷ 4 ∷ []) ∷ [])) 32 gives leaves (answer 7 3 0) (fresh_from 0 32)
    -- check of the three
    ∷ to_check (nodes ((2 ∷ 0 ∷ 0 ∷ 0 ∷ 6 ∷ 0 ∷ 18 ∷ 197 ∷ 198 ∷ 8 ∷ []) ∷ (2 ∷ 0 ∷ 0 ∷ 0 ∷ 4 ∷ 2 ∷ 2 ∷ 17 ∷ 2 ∷ 4 ∷ []) ∷ (2 ∷ 0 ∷ 0 ∷ 0 ∷ 4 ∷ 4 ∷ 2 ∷ 1 ∷ 18 ∷ 4 ∷ []) ∷ (46 ∷ 2 ∷ 4 ∷ 6 ∷ 0 ∷ 4 ∷ []) ∷ [])) 32 gives leaves (answer 7 3 0) (fresh_from 0 32)
    -- check of the three
    ∷ to_check (nodes ((2 ∷ 0 ∷ 0 ∷ 0 ∷ 6 ∷ 0 ∷ 18 ∷ 197 ∷ 198 ∷ 8 ∷ []) ∷ (2 ∷ 0 ∷ 0 ∷ 0 ∷ 4 ∷ 2 ∷ 2 ∷ 17 ∷ 2 ∷ 4 ∷ []) ∷ (2 ∷ 0 ∷ 0 ∷ 0 ∷ 4 ∷ 4 ∷ 2 ∷ 1 ∷ 18 ∷ 4 ∷ []) ∷ (46 ∷ 2 ∷ 4 ∷ 1 ∷ 0 ∷ 4 ∷ []) ∷ [])) 32 gives leaves (answer 7 3 0) (fresh_from 0 32)
    -- check of the three
    ∷ to_check (nodes ((2 ∷ 0 ∷ 0 ∷ 0 ∷ 6 ∷ 0 ∷ 18 ∷ 197 ∷ 198 ∷ 8 ∷ []) ∷ (2 ∷ 0 ∷ 0 ∷ 0 ∷ 4 ∷ 2 ∷ 2 ∷ 17 ∷ 2 ∷ 4 ∷ []) ∷ (2 ∷ 0 ∷ 0 ∷ 0 ∷ 4 ∷ 4 ∷ 2 ∷ 1 ∷ 18 ∷ 4 ∷ []) ∷ (46 ∷ 2 ∷ 4 ∷ 18446744073709551615 ∷ 0 ∷ 4 ∷ []) ∷ [])) 32 gives leaves (answer 7 3 0) (fresh_from 0 32)
    -- check of the three
    ∷ to_check (nodes ((2 ∷ 0 ∷ 0 ∷ 0 ∷ 6 ∷ 0 ∷ 18 ∷ 197 ∷ 198 ∷ 8 ∷ []) ∷ (2 ∷ 0 ∷ 0 ∷ 0 ∷ 4 ∷ 2 ∷ 2 ∷ 17 ∷ 2 ∷ 4 ∷ []) ∷ (2 ∷ 0 ∷ 0 ∷ 0 ∷ 4 ∷ 4 ∷ 2 ∷ 1 ∷ 18 ∷ 4 ∷ []) ∷ (46 ∷ 2 ∷ 4 ∷ 18446744073709551614 ∷ 0 ∷ 4 ∷ []) ∷ [])) 32 gives leaves (answer 7 3 0) (fresh_from 0 32)
    -- check of the three
    ∷ to_check (nodes ((2 ∷ 0 ∷ 0 ∷ 0 ∷ 6 ∷ 0 ∷ 18 ∷ 197 ∷ 198 ∷ 8 ∷ []) ∷ (2 ∷ 0 ∷ 0 ∷ 0 ∷ 4 ∷ 2 ∷ 2 ∷ 17 ∷ 2 ∷ 4 ∷ []) ∷ (2 ∷ 0 ∷ 0 ∷ 0 ∷ 4 ∷ 4 ∷ 2 ∷ 1 ∷ 18 ∷ 4 ∷ []) ∷ (46 ∷ 2 ∷ 4 ∷ 8589934592 ∷ 0 ∷ 4 ∷ []) ∷ [])) 32 gives leaves (answer 7 3 0) (fresh_from 0 32)
    -- check of the three
    ∷ to_check (nodes ((2 ∷ 0 ∷ 0 ∷ 0 ∷ 6 ∷ 0 ∷ 18 ∷ 197 ∷ 198 ∷ 8 ∷ []) ∷ (2 ∷ 0 ∷ 0 ∷ 0 ∷ 4 ∷ 2 ∷ 2 ∷ 17 ∷ 2 ∷ 4 ∷ []) ∷ (2 ∷ 0 ∷ 0 ∷ 0 ∷ 4 ∷ 4 ∷ 2 ∷ 1 ∷ 18 ∷ 4 ∷ []) ∷ (46 ∷ 2 ∷ 4 ∷ 0 ∷ 0 ∷ 6 ∷ []) ∷ [])) 32 gives leaves (answer 6 3 0) (fresh_from 0 32)
    -- check of the three
    ∷ to_check (nodes ((2 ∷ 0 ∷ 0 ∷ 0 ∷ 6 ∷ 0 ∷ 18 ∷ 197 ∷ 198 ∷ 8 ∷ []) ∷ (2 ∷ 0 ∷ 0 ∷ 0 ∷ 4 ∷ 2 ∷ 2 ∷ 17 ∷ 2 ∷ 4 ∷ []) ∷ (2 ∷ 0 ∷ 0 ∷ 0 ∷ 4 ∷ 4 ∷ 2 ∷ 1 ∷ 18 ∷ 4 ∷ []) ∷ (46 ∷ 2 ∷ 4 ∷ 2 ∷ 0 ∷ 6 ∷ []) ∷ [])) 32 gives leaves (answer 0 0 0) (words (6 ∷ 18 ∷ 197 ∷ 198 ∷ 8 ∷ 0 ∷ 0 ∷ 0 ∷ 4 ∷ 2 ∷ 17 ∷ 2 ∷ 4 ∷ 0 ∷ 0 ∷ 0 ∷ 4 ∷ 2 ∷ 1 ∷ 18 ∷ 4 ∷ 0 ∷ 0 ∷ 0 ∷ 4 ∷ 2 ∷ 17 ∷ 18 ∷ 6 ∷ 4 ∷ 0 ∷ 0 ∷ []))
    -- check of the three
    ∷ to_check (nodes ((2 ∷ 0 ∷ 0 ∷ 0 ∷ 6 ∷ 0 ∷ 18 ∷ 197 ∷ 198 ∷ 8 ∷ []) ∷ (2 ∷ 0 ∷ 0 ∷ 0 ∷ 4 ∷ 2 ∷ 2 ∷ 17 ∷ 2 ∷ 4 ∷ []) ∷ (2 ∷ 0 ∷ 0 ∷ 0 ∷ 4 ∷ 4 ∷ 2 ∷ 1 ∷ 18 ∷ 4 ∷ []) ∷ (46 ∷ 2 ∷ 4 ∷ 4 ∷ 0 ∷ 6 ∷ []) ∷ [])) 32 gives leaves (answer 0 0 0) (words (6 ∷ 18 ∷ 197 ∷ 198 ∷ 8 ∷ 0 ∷ 0 ∷ 0 ∷ 4 ∷ 2 ∷ 17 ∷ 2 ∷ 4 ∷ 0 ∷ 0 ∷ 0 ∷ 4 ∷ 2 ∷ 1 ∷ 18 ∷ 4 ∷ 0 ∷ 0 ∷ 0 ∷ 4 ∷ 2 ∷ 17 ∷ 18 ∷ 6 ∷ 4 ∷ 0 ∷ 0 ∷ []))
    -- check of the three
    ∷ to_check (nodes ((2 ∷ 0 ∷ 0 ∷ 0 ∷ 6 ∷ 0 ∷ 18 ∷ 197 ∷ 198 ∷ 8 ∷ []) ∷ (2 ∷ 0 ∷ 0 ∷ 0 ∷ 4 ∷ 2 ∷ 2 ∷ 17 ∷ 2 ∷ 4 ∷ []) ∷ (2 ∷ 0 ∷ 0 ∷ 0 ∷ 4 ∷ 4 ∷ 2 ∷ 1 ∷ 18 ∷ 4 ∷ []) ∷ (46 ∷ 2 ∷ 4 ∷ 6 ∷ 0 ∷ 6 ∷ []) ∷ [])) 32 gives leaves (answer 4 3 0) (fresh_from 0 32)
    -- check of the three
    ∷ to_check (nodes ((2 ∷ 0 ∷ 0 ∷ 0 ∷ 6 ∷ 0 ∷ 18 ∷ 197 ∷ 198 ∷ 8 ∷ []) ∷ (2 ∷ 0 ∷ 0 ∷ 0 ∷ 4 ∷ 2 ∷ 2 ∷ 17 ∷ 2 ∷ 4 ∷ []) ∷ (2 ∷ 0 ∷ 0 ∷ 0 ∷ 4 ∷ 4 ∷ 2 ∷ 1 ∷ 18 ∷ 4 ∷ []) ∷ (46 ∷ 2 ∷ 4 ∷ 1 ∷ 0 ∷ 6 ∷ []) ∷ [])) 32 gives leaves (answer 4 3 0) (fresh_from 0 32)
    -- check of the three
    ∷ to_check (nodes ((2 ∷ 0 ∷ 0 ∷ 0 ∷ 6 ∷ 0 ∷ 18 ∷ 197 ∷ 198 ∷ 8 ∷ []) ∷ (2 ∷ 0 ∷ 0 ∷ 0 ∷ 4 ∷ 2 ∷ 2 ∷ 17 ∷ 2 ∷ 4 ∷ []) ∷ (2 ∷ 0 ∷ 0 ∷ 0 ∷ 4 ∷ 4 ∷ 2 ∷ 1 ∷ 18 ∷ 4 ∷ []) ∷ (46 ∷ 2 ∷ 4 ∷ 18446744073709551615 ∷ 0 ∷ 6 ∷ []) ∷ [])) 32 gives leaves (answer 4 3 0) (fresh_from 0 32)
    -- check of the three
    ∷ to_check (nodes ((2 ∷ 0 ∷ 0 ∷ 0 ∷ 6 ∷ 0 ∷ 18 ∷ 197 ∷ 198 ∷ 8 ∷ []) ∷ (2 ∷ 0 ∷ 0 ∷ 0 ∷ 4 ∷ 2 ∷ 2 ∷ 17 ∷ 2 ∷ 4 ∷ []) ∷ (2 ∷ 0 ∷ 0 ∷ 0 ∷ 4 ∷ 4 ∷ 2 ∷ 1 ∷ 18 ∷ 4 ∷ []) ∷ (46 ∷ 2 ∷ 4 ∷ 18446744073709551614 ∷ 0 ∷ 6 ∷ []) ∷ [])) 32 gives leaves (answer 4 3 0) (fresh_from 0 32)
    -- check of the three
    ∷ to_check (nodes ((2 ∷ 0 ∷ 0 ∷ 0 ∷ 6 ∷ 0 ∷ 18 ∷ 197 ∷ 198 ∷ 8 ∷ []) ∷ (2 ∷ 0 ∷ 0 ∷ 0 ∷ 4 ∷ 2 ∷ 2 ∷ 17 ∷ 2 ∷ 4 ∷ []) ∷ (2 ∷ 0 ∷ 0 ∷ 0 ∷ 4 ∷ 4 ∷ 2 ∷ 1 ∷ 18 ∷ 4 ∷ []) ∷ (46 ∷ 2 ∷ 4 ∷ 8589934594 ∷ 0 ∷ 6 ∷ []) ∷ [])) 32 gives leaves (answer 4 3 0) (fresh_from 0 32)
    -- check of the three
    ∷ to_check (nodes ((2 ∷ 0 ∷ 0 ∷ 0 ∷ 6 ∷ 0 ∷ 18 ∷ 197 ∷ 198 ∷ 8 ∷ []) ∷ (2 ∷ 0 ∷ 0 ∷ 0 ∷ 4 ∷ 2 ∷ 2 ∷ 17 ∷ 2 ∷ 4 ∷ []) ∷ (2 ∷ 0 ∷ 0 ∷ 0 ∷ 4 ∷ 4 ∷ 2 ∷ 1 ∷ 18 ∷ 4 ∷ []) ∷ (46 ∷ 2 ∷ 4 ∷ []) ∷ [])) 32 gives leaves (answer 7 3 0) (fresh_from 0 32)
    -- check of the three
    ∷ to_check (nodes ((2 ∷ 0 ∷ 0 ∷ 0 ∷ 6 ∷ 0 ∷ 18 ∷ 197 ∷ 198 ∷ 8 ∷ []) ∷ (2 ∷ 0 ∷ 0 ∷ 0 ∷ 4 ∷ 2 ∷ 2 ∷ 17 ∷ 2 ∷ 4 ∷ []) ∷ (2 ∷ 0 ∷ 0 ∷ 0 ∷ 4 ∷ 4 ∷ 2 ∷ 1 ∷ 18 ∷ 4 ∷ []) ∷ (46 ∷ 2 ∷ 4 ∷ 18 ∷ []) ∷ [])) 32 gives leaves (answer 7 3 0) (fresh_from 0 32)
    -- check of the three
    ∷ to_check (nodes ((2 ∷ 0 ∷ 0 ∷ 0 ∷ 6 ∷ 0 ∷ 18 ∷ 197 ∷ 198 ∷ 8 ∷ []) ∷ (2 ∷ 0 ∷ 0 ∷ 0 ∷ 4 ∷ 2 ∷ 2 ∷ 17 ∷ 2 ∷ 4 ∷ []) ∷ (2 ∷ 0 ∷ 0 ∷ 0 ∷ 4 ∷ 4 ∷ 2 ∷ 1 ∷ 18 ∷ 4 ∷ []) ∷ (46 ∷ 2 ∷ 4 ∷ 0 ∷ 0 ∷ 2 ∷ []) ∷ [])) 32 gives leaves (answer 7 3 0) (fresh_from 0 32)
    -- check of the three
    ∷ to_check (nodes ((2 ∷ 0 ∷ 0 ∷ 0 ∷ 6 ∷ 0 ∷ 18 ∷ 197 ∷ 198 ∷ 8 ∷ []) ∷ (2 ∷ 0 ∷ 0 ∷ 0 ∷ 4 ∷ 2 ∷ 2 ∷ 17 ∷ 2 ∷ 4 ∷ []) ∷ (2 ∷ 0 ∷ 0 ∷ 0 ∷ 4 ∷ 4 ∷ 2 ∷ 1 ∷ 18 ∷ 4 ∷ []) ∷ (46 ∷ 2 ∷ 4 ∷ 18 ∷ 0 ∷ 2 ∷ []) ∷ [])) 32 gives leaves (answer 7 3 0) (fresh_from 0 32)
    -- check of the three
    ∷ to_check (nodes ((2 ∷ 0 ∷ 0 ∷ 0 ∷ 6 ∷ 0 ∷ 18 ∷ 197 ∷ 198 ∷ 8 ∷ []) ∷ (2 ∷ 0 ∷ 0 ∷ 0 ∷ 4 ∷ 2 ∷ 2 ∷ 17 ∷ 2 ∷ 4 ∷ []) ∷ (2 ∷ 0 ∷ 0 ∷ 0 ∷ 4 ∷ 4 ∷ 2 ∷ 1 ∷ 18 ∷ 4 ∷ []) ∷ (46 ∷ 2 ∷ 4 ∷ 0 ∷ 0 ∷ 8 ∷ []) ∷ [])) 32 gives leaves (answer 7 3 0) (fresh_from 0 32)
    -- check of the three
    ∷ to_check (nodes ((2 ∷ 0 ∷ 0 ∷ 0 ∷ 6 ∷ 0 ∷ 18 ∷ 197 ∷ 198 ∷ 8 ∷ []) ∷ (2 ∷ 0 ∷ 0 ∷ 0 ∷ 4 ∷ 2 ∷ 2 ∷ 17 ∷ 2 ∷ 4 ∷ []) ∷ (2 ∷ 0 ∷ 0 ∷ 0 ∷ 4 ∷ 4 ∷ 2 ∷ 1 ∷ 18 ∷ 4 ∷ []) ∷ (46 ∷ 2 ∷ 4 ∷ 18 ∷ 0 ∷ 8 ∷ []) ∷ [])) 32 gives leaves (answer 7 3 0) (fresh_from 0 32)
    -- check of the three
    ∷ to_check (nodes ((2 ∷ 0 ∷ 0 ∷ 0 ∷ 6 ∷ 0 ∷ 18 ∷ 197 ∷ 198 ∷ 8 ∷ []) ∷ (2 ∷ 0 ∷ 0 ∷ 0 ∷ 4 ∷ 2 ∷ 2 ∷ 17 ∷ 2 ∷ 4 ∷ []) ∷ (2 ∷ 0 ∷ 0 ∷ 0 ∷ 4 ∷ 4 ∷ 2 ∷ 1 ∷ 18 ∷ 4 ∷ []) ∷ (46 ∷ 2 ∷ 4 ∷ 0 ∷ 0 ∷ 1 ∷ []) ∷ [])) 32 gives leaves (answer 7 3 0) (fresh_from 0 32)
    -- check of the three
    ∷ to_check (nodes ((2 ∷ 0 ∷ 0 ∷ 0 ∷ 6 ∷ 0 ∷ 18 ∷ 197 ∷ 198 ∷ 8 ∷ []) ∷ (2 ∷ 0 ∷ 0 ∷ 0 ∷ 4 ∷ 2 ∷ 2 ∷ 17 ∷ 2 ∷ 4 ∷ []) ∷ (2 ∷ 0 ∷ 0 ∷ 0 ∷ 4 ∷ 4 ∷ 2 ∷ 1 ∷ 18 ∷ 4 ∷ []) ∷ (46 ∷ 2 ∷ 4 ∷ 18 ∷ 0 ∷ 1 ∷ []) ∷ [])) 32 gives leaves (answer 7 3 0) (fresh_from 0 32)
    -- check of the three
    ∷ to_check (nodes ((2 ∷ 0 ∷ 0 ∷ 0 ∷ 6 ∷ 0 ∷ 18 ∷ 197 ∷ 198 ∷ 8 ∷ []) ∷ (2 ∷ 0 ∷ 0 ∷ 0 ∷ 4 ∷ 2 ∷ 2 ∷ 17 ∷ 2 ∷ 4 ∷ []) ∷ (2 ∷ 0 ∷ 0 ∷ 0 ∷ 4 ∷ 4 ∷ 2 ∷ 1 ∷ 18 ∷ 4 ∷ []) ∷ (46 ∷ 2 ∷ 4 ∷ 0 ∷ 0 ∷ 10 ∷ []) ∷ [])) 32 gives leaves (answer 7 3 0) (fresh_from 0 32)
    -- check of the three
    ∷ to_check (nodes ((2 ∷ 0 ∷ 0 ∷ 0 ∷ 6 ∷ 0 ∷ 18 ∷ 197 ∷ 198 ∷ 8 ∷ []) ∷ (2 ∷ 0 ∷ 0 ∷ 0 ∷ 4 ∷ 2 ∷ 2 ∷ 17 ∷ 2 ∷ 4 ∷ []) ∷ (2 ∷ 0 ∷ 0 ∷ 0 ∷ 4 ∷ 4 ∷ 2 ∷ 1 ∷ 18 ∷ 4 ∷ []) ∷ (46 ∷ 2 ∷ 4 ∷ 0 ∷ 0 ∷ 8589934596 ∷ []) ∷ [])) 32 gives leaves (answer 7 3 0) (fresh_from 0 32)
    -- check of the three
    ∷ to_check (nodes ((2 ∷ 0 ∷ 0 ∷ 0 ∷ 6 ∷ 0 ∷ 18 ∷ 197 ∷ 198 ∷ 8 ∷ []) ∷ (2 ∷ 0 ∷ 0 ∷ 0 ∷ 4 ∷ 2 ∷ 2 ∷ 17 ∷ 2 ∷ 4 ∷ []) ∷ (2 ∷ 0 ∷ 0 ∷ 0 ∷ 4 ∷ 4 ∷ 2 ∷ 1 ∷ 18 ∷ 4 ∷ []) ∷ (46 ∷ 2 ∷ 4 ∷ 0 ∷ 0 ∷ 8589934598 ∷ []) ∷ [])) 32 gives leaves (answer 7 3 0) (fresh_from 0 32)
    -- check of the three
    ∷ to_check (nodes ((2 ∷ 0 ∷ 0 ∷ 0 ∷ 6 ∷ 0 ∷ 18 ∷ 197 ∷ 198 ∷ 8 ∷ []) ∷ (2 ∷ 0 ∷ 0 ∷ 0 ∷ 4 ∷ 2 ∷ 2 ∷ 17 ∷ 2 ∷ 4 ∷ []) ∷ (2 ∷ 0 ∷ 0 ∷ 0 ∷ 4 ∷ 4 ∷ 2 ∷ 1 ∷ 18 ∷ 4 ∷ []) ∷ (46 ∷ 2 ∷ 4 ∷ 0 ∷ 0 ∷ 3 ∷ []) ∷ [])) 32 gives leaves (answer 7 3 0) (fresh_from 0 32)
    -- check of the three
    ∷ to_check (nodes ((2 ∷ 0 ∷ 0 ∷ 0 ∷ 6 ∷ 0 ∷ 18 ∷ 197 ∷ 198 ∷ 8 ∷ []) ∷ (2 ∷ 0 ∷ 0 ∷ 0 ∷ 4 ∷ 2 ∷ 2 ∷ 17 ∷ 2 ∷ 4 ∷ []) ∷ (2 ∷ 0 ∷ 0 ∷ 0 ∷ 4 ∷ 4 ∷ 2 ∷ 1 ∷ 18 ∷ 4 ∷ []) ∷ (46 ∷ 2 ∷ 4 ∷ 0 ∷ 0 ∷ 5 ∷ []) ∷ [])) 32 gives leaves (answer 7 3 0) (fresh_from 0 32)
    -- check of the three
    ∷ to_check (nodes ((2 ∷ 0 ∷ 0 ∷ 0 ∷ 6 ∷ 0 ∷ 18 ∷ 197 ∷ 198 ∷ 8 ∷ []) ∷ (2 ∷ 0 ∷ 0 ∷ 0 ∷ 4 ∷ 2 ∷ 2 ∷ 17 ∷ 2 ∷ 4 ∷ []) ∷ (2 ∷ 0 ∷ 0 ∷ 0 ∷ 4 ∷ 4 ∷ 2 ∷ 1 ∷ 18 ∷ 4 ∷ []) ∷ (46 ∷ 2 ∷ 4 ∷ 0 ∷ 0 ∷ 18446744073709551615 ∷ []) ∷ [])) 32 gives leaves (answer 7 3 0) (fresh_from 0 32)
    -- check of the three
    ∷ to_check (nodes ((2 ∷ 0 ∷ 0 ∷ 0 ∷ 6 ∷ 0 ∷ 18 ∷ 197 ∷ 198 ∷ 8 ∷ []) ∷ (2 ∷ 0 ∷ 0 ∷ 0 ∷ 4 ∷ 2 ∷ 2 ∷ 17 ∷ 2 ∷ 4 ∷ []) ∷ (2 ∷ 0 ∷ 0 ∷ 0 ∷ 4 ∷ 4 ∷ 2 ∷ 1 ∷ 18 ∷ 4 ∷ []) ∷ (46 ∷ 2 ∷ 4 ∷ 0 ∷ 0 ∷ 18446744073709551614 ∷ []) ∷ [])) 32 gives leaves (answer 7 3 0) (fresh_from 0 32)
    -- check of the three
    ∷ to_check (nodes ((2 ∷ 0 ∷ 0 ∷ 0 ∷ 6 ∷ 0 ∷ 18 ∷ 197 ∷ 198 ∷ 8 ∷ []) ∷ (2 ∷ 0 ∷ 0 ∷ 0 ∷ 4 ∷ 2 ∷ 2 ∷ 17 ∷ 2 ∷ 4 ∷ []) ∷ (2 ∷ 0 ∷ 0 ∷ 0 ∷ 4 ∷ 4 ∷ 2 ∷ 1 ∷ 18 ∷ 4 ∷ []) ∷ (46 ∷ 6 ∷ 2 ∷ 18 ∷ 0 ∷ 18 ∷ []) ∷ [])) 32 gives leaves (answer 4 3 0) (fresh_from 0 32)
    -- check of the three
    ∷ to_check (nodes ((2 ∷ 0 ∷ 0 ∷ 0 ∷ 6 ∷ 0 ∷ 18 ∷ 197 ∷ 198 ∷ 8 ∷ []) ∷ (2 ∷ 0 ∷ 0 ∷ 0 ∷ 4 ∷ 2 ∷ 2 ∷ 17 ∷ 2 ∷ 4 ∷ []) ∷ (2 ∷ 0 ∷ 0 ∷ 0 ∷ 4 ∷ 4 ∷ 2 ∷ 1 ∷ 18 ∷ 4 ∷ []) ∷ (46 ∷ 1 ∷ 2 ∷ 18 ∷ 0 ∷ 18 ∷ []) ∷ [])) 32 gives leaves (answer 4 3 0) (fresh_from 0 32)
    -- check of the three
    ∷ to_check (nodes ((2 ∷ 0 ∷ 0 ∷ 0 ∷ 6 ∷ 0 ∷ 18 ∷ 197 ∷ 198 ∷ 8 ∷ []) ∷ (2 ∷ 0 ∷ 0 ∷ 0 ∷ 4 ∷ 2 ∷ 2 ∷ 17 ∷ 2 ∷ 4 ∷ []) ∷ (2 ∷ 0 ∷ 0 ∷ 0 ∷ 4 ∷ 4 ∷ 2 ∷ 1 ∷ 18 ∷ 4 ∷ []) ∷ (46 ∷ 2 ∷ 6 ∷ 18 ∷ 0 ∷ 18 ∷ []) ∷ [])) 32 gives leaves (answer 4 3 0) (fresh_from 0 32)
    -- check of the three
    ∷ to_check (nodes ((2 ∷ 0 ∷ 0 ∷ 0 ∷ 6 ∷ 0 ∷ 18 ∷ 197 ∷ 198 ∷ 8 ∷ []) ∷ (2 ∷ 0 ∷ 0 ∷ 0 ∷ 4 ∷ 2 ∷ 2 ∷ 17 ∷ 2 ∷ 4 ∷ []) ∷ (2 ∷ 0 ∷ 0 ∷ 0 ∷ 4 ∷ 4 ∷ 2 ∷ 1 ∷ 18 ∷ 4 ∷ []) ∷ (46 ∷ 2 ∷ 18446744073709551615 ∷ 18 ∷ 0 ∷ 18 ∷ []) ∷ [])) 32 gives leaves (answer 4 3 0) (fresh_from 0 32)
    -- check of the three
    ∷ to_check (nodes ((2 ∷ 0 ∷ 0 ∷ 0 ∷ 6 ∷ 0 ∷ 18 ∷ 197 ∷ 198 ∷ 8 ∷ []) ∷ (2 ∷ 0 ∷ 0 ∷ 0 ∷ 4 ∷ 2 ∷ 2 ∷ 17 ∷ 2 ∷ 4 ∷ []) ∷ (2 ∷ 0 ∷ 0 ∷ 0 ∷ 4 ∷ 4 ∷ 2 ∷ 1 ∷ 18 ∷ 4 ∷ []) ∷ (46 ∷ 18446744073709551614 ∷ 2 ∷ 18 ∷ 0 ∷ 18 ∷ []) ∷ [])) 32 gives leaves (answer 4 3 0) (fresh_from 0 32)
    -- check of the three
    ∷ to_check (nodes ((2 ∷ 0 ∷ 0 ∷ 0 ∷ 6 ∷ 0 ∷ 18 ∷ 197 ∷ 198 ∷ 8 ∷ []) ∷ (2 ∷ 0 ∷ 0 ∷ 0 ∷ 4 ∷ 2 ∷ 2 ∷ 17 ∷ 2 ∷ 4 ∷ []) ∷ (2 ∷ 0 ∷ 0 ∷ 0 ∷ 4 ∷ 4 ∷ 2 ∷ 1 ∷ 18 ∷ 4 ∷ []) ∷ (46 ∷ 0 ∷ 2 ∷ 18 ∷ 0 ∷ 18 ∷ []) ∷ [])) 32 gives leaves (answer 6 3 0) (fresh_from 0 32)
    -- check of the three
    ∷ to_check (nodes ((2 ∷ 0 ∷ 0 ∷ 0 ∷ 6 ∷ 0 ∷ 18 ∷ 197 ∷ 198 ∷ 8 ∷ []) ∷ (2 ∷ 0 ∷ 0 ∷ 0 ∷ 4 ∷ 2 ∷ 2 ∷ 17 ∷ 2 ∷ 4 ∷ []) ∷ (2 ∷ 0 ∷ 0 ∷ 0 ∷ 4 ∷ 4 ∷ 2 ∷ 1 ∷ 18 ∷ 4 ∷ []) ∷ (46 ∷ 2 ∷ 0 ∷ 18 ∷ 0 ∷ 18 ∷ []) ∷ [])) 32 gives leaves (answer 6 3 0) (fresh_from 0 32)
    -- check of the three
    ∷ to_check (nodes ((2 ∷ 0 ∷ 0 ∷ 0 ∷ 6 ∷ 0 ∷ 18 ∷ 197 ∷ 198 ∷ 8 ∷ []) ∷ (2 ∷ 0 ∷ 0 ∷ 0 ∷ 4 ∷ 2 ∷ 2 ∷ 17 ∷ 2 ∷ 4 ∷ []) ∷ (2 ∷ 0 ∷ 0 ∷ 0 ∷ 4 ∷ 4 ∷ 2 ∷ 1 ∷ 18 ∷ 4 ∷ []) ∷ (46 ∷ 0 ∷ 2 ∷ 0 ∷ 0 ∷ 4 ∷ []) ∷ [])) 32 gives leaves (answer 6 3 0) (fresh_from 0 32)
    -- check of the three
    ∷ to_check (nodes ((2 ∷ 0 ∷ 0 ∷ 0 ∷ 6 ∷ 0 ∷ 18 ∷ 197 ∷ 198 ∷ 8 ∷ []) ∷ (2 ∷ 0 ∷ 0 ∷ 0 ∷ 4 ∷ 2 ∷ 2 ∷ 17 ∷ 2 ∷ 4 ∷ []) ∷ (2 ∷ 0 ∷ 0 ∷ 0 ∷ 4 ∷ 4 ∷ 2 ∷ 1 ∷ 18 ∷ 4 ∷ []) ∷ (46 ∷ 0 ∷ 2 ∷ 2 ∷ 0 ∷ 4 ∷ []) ∷ [])) 32 gives leaves (answer 6 3 0) (fresh_from 0 32)
    -- check of the three
    ∷ to_check (nodes ((2 ∷ 0 ∷ 0 ∷ 0 ∷ 6 ∷ 0 ∷ 18 ∷ 197 ∷ 198 ∷ 8 ∷ []) ∷ (2 ∷ 0 ∷ 0 ∷ 0 ∷ 4 ∷ 2 ∷ 2 ∷ 17 ∷ 2 ∷ 4 ∷ []) ∷ (2 ∷ 0 ∷ 0 ∷ 0 ∷ 4 ∷ 4 ∷ 2 ∷ 1 ∷ 18 ∷ 4 ∷ []) ∷ (46 ∷ 0 ∷ 2 ∷ 18 ∷ 0 ∷ 4 ∷ []) ∷ [])) 32 gives leaves (answer 6 3 0) (fresh_from 0 32)
    -- check of the three
    ∷ to_check (nodes ((2 ∷ 0 ∷ 0 ∷ 0 ∷ 6 ∷ 0 ∷ 18 ∷ 197 ∷ 198 ∷ 8 ∷ []) ∷ (2 ∷ 0 ∷ 0 ∷ 0 ∷ 4 ∷ 2 ∷ 2 ∷ 17 ∷ 2 ∷ 4 ∷ []) ∷ (2 ∷ 0 ∷ 0 ∷ 0 ∷ 4 ∷ 4 ∷ 2 ∷ 1 ∷ 18 ∷ 4 ∷ []) ∷ (2 ∷ 0 ∷ 0 ∷ 0 ∷ 4 ∷ 6 ∷ 2 ∷ 0 ∷ 2 ∷ 6 ∷ []) ∷ (46 ∷ 2 ∷ 6 ∷ 0 ∷ 0 ∷ 4 ∷ []) ∷ [])) 40 gives leaves (answer 8 4 0) (fresh_from 0 40)
    -- check of the three
    ∷ to_check (nodes ((2 ∷ 0 ∷ 0 ∷ 0 ∷ 6 ∷ 0 ∷ 18 ∷ 197 ∷ 198 ∷ 8 ∷ []) ∷ (2 ∷ 0 ∷ 0 ∷ 0 ∷ 4 ∷ 2 ∷ 2 ∷ 17 ∷ 2 ∷ 4 ∷ []) ∷ (2 ∷ 0 ∷ 0 ∷ 0 ∷ 4 ∷ 4 ∷ 2 ∷ 1 ∷ 18 ∷ 4 ∷ []) ∷ (2 ∷ 0 ∷ 0 ∷ 0 ∷ 4 ∷ 6 ∷ 2 ∷ 0 ∷ 2 ∷ 6 ∷ []) ∷ (46 ∷ 2 ∷ 6 ∷ 18 ∷ 0 ∷ 4 ∷ []) ∷ [])) 40 gives leaves (answer 7 4 0) (fresh_from 0 40)
    -- check of the three
    ∷ to_check (nodes ((2 ∷ 0 ∷ 0 ∷ 0 ∷ 6 ∷ 0 ∷ 18 ∷ 197 ∷ 198 ∷ 8 ∷ []) ∷ (2 ∷ 0 ∷ 0 ∷ 0 ∷ 4 ∷ 2 ∷ 2 ∷ 17 ∷ 2 ∷ 4 ∷ []) ∷ (2 ∷ 0 ∷ 0 ∷ 0 ∷ 4 ∷ 4 ∷ 2 ∷ 1 ∷ 18 ∷ 4 ∷ []) ∷ (2 ∷ 0 ∷ 0 ∷ 0 ∷ 4 ∷ 6 ∷ 2 ∷ 0 ∷ 2 ∷ 6 ∷ []) ∷ (46 ∷ 2 ∷ 6 ∷ 0 ∷ 0 ∷ 8 ∷ []) ∷ [])) 40 gives leaves (answer 7 4 0) (fresh_from 0 40)
    ∷ []

pub table36_agrees : Agree table36
unfolding everything
table36_agrees = refl
