-- Written by tests/model/tables.py: change that script or cases.py, never this file.
use mathlib.Core.Path.{refl}
use mathlib.Core.List.{List, [], ◌∷◌}
use Rattle.guarantees.proofs.Everything.{everything}
use Rattle.agreement.specs.Cases.{words, nodes, times, fresh_from, to_check, leaves, answer, Case, ◌gives◌, Agree}

abbrev pub table29 : List Case
table29 =
    -- check by hand
    to_check (nodes ((2 ∷ 0 ∷ 0 ∷ 0 ∷ 0 ∷ 0 ∷ 2 ∷ 2 ∷ 2 ∷ 4 ∷ 6 ∷ []) ∷ (2 ∷ 0 ∷ 0 ∷ 0 ∷ 6 ∷ 2 ∷ 2 ∷ 2 ∷ 2 ∷ 4 ∷ 6 ∷ []) ∷ (24 ∷ 0 ∷ 2 ∷ []) ∷ [])) 24 gives leaves (answer 6 2 0) (fresh_from 0 24)
    -- check by hand
    ∷ to_check (nodes ((2 ∷ 0 ∷ 0 ∷ 0 ∷ 6 ∷ 0 ∷ 2 ∷ 2 ∷ 2 ∷ 4 ∷ 6 ∷ []) ∷ (2 ∷ 0 ∷ 0 ∷ 0 ∷ 0 ∷ 2 ∷ 2 ∷ 2 ∷ 2 ∷ 4 ∷ 6 ∷ []) ∷ (24 ∷ 0 ∷ 2 ∷ []) ∷ [])) 24 gives leaves (answer 6 2 0) (fresh_from 0 24)
    -- check by hand
    ∷ to_check (nodes ((2 ∷ 0 ∷ 0 ∷ 0 ∷ 0 ∷ 0 ∷ 2 ∷ 2 ∷ 2 ∷ 4 ∷ 6 ∷ []) ∷ (2 ∷ 0 ∷ 0 ∷ 0 ∷ 0 ∷ 2 ∷ 2 ∷ 2 ∷ 2 ∷ 4 ∷ 6 ∷ []) ∷ (26 ∷ 0 ∷ 2 ∷ []) ∷ [])) 24 gives leaves (answer 6 2 0) (fresh_from 0 24)
    -- check by hand
    ∷ to_check (nodes ((2 ∷ 0 ∷ 0 ∷ 0 ∷ 0 ∷ 0 ∷ 2 ∷ 2 ∷ 2 ∷ 4 ∷ 6 ∷ []) ∷ (2 ∷ 0 ∷ 0 ∷ 0 ∷ 6 ∷ 2 ∷ 2 ∷ 2 ∷ 2 ∷ 4 ∷ 6 ∷ []) ∷ (26 ∷ 0 ∷ 2 ∷ []) ∷ [])) 24 gives leaves (answer 6 2 0) (fresh_from 0 24)
    -- check by hand
    ∷ to_check (nodes ((2 ∷ 0 ∷ 0 ∷ 0 ∷ 6 ∷ 0 ∷ 2 ∷ 2 ∷ 2 ∷ 4 ∷ 6 ∷ []) ∷ (2 ∷ 0 ∷ 0 ∷ 0 ∷ 0 ∷ 2 ∷ 2 ∷ 2 ∷ 2 ∷ 4 ∷ 6 ∷ []) ∷ (26 ∷ 0 ∷ 2 ∷ []) ∷ [])) 24 gives leaves (answer 6 2 0) (fresh_from 0 24)
    -- check by hand
    ∷ to_check (nodes ((2 ∷ 0 ∷ 0 ∷ 0 ∷ 0 ∷ 0 ∷ 2 ∷ 2 ∷ 2 ∷ 4 ∷ 6 ∷ []) ∷ (2 ∷ 0 ∷ 0 ∷ 0 ∷ 0 ∷ 2 ∷ 2 ∷ 2 ∷ 2 ∷ 4 ∷ 6 ∷ []) ∷ (28 ∷ 0 ∷ 2 ∷ []) ∷ [])) 24 gives leaves (answer 6 2 0) (fresh_from 0 24)
    -- check by hand
    ∷ to_check (nodes ((2 ∷ 0 ∷ 0 ∷ 0 ∷ 0 ∷ 0 ∷ 2 ∷ 2 ∷ 2 ∷ 4 ∷ 6 ∷ []) ∷ (2 ∷ 0 ∷ 0 ∷ 0 ∷ 6 ∷ 2 ∷ 2 ∷ 2 ∷ 2 ∷ 4 ∷ 6 ∷ []) ∷ (28 ∷ 0 ∷ 2 ∷ []) ∷ [])) 24 gives leaves (answer 6 2 0) (fresh_from 0 24)
    -- check by hand
    ∷ to_check (nodes ((2 ∷ 0 ∷ 0 ∷ 0 ∷ 6 ∷ 0 ∷ 2 ∷ 2 ∷ 2 ∷ 4 ∷ 6 ∷ []) ∷ (2 ∷ 0 ∷ 0 ∷ 0 ∷ 0 ∷ 2 ∷ 2 ∷ 2 ∷ 2 ∷ 4 ∷ 6 ∷ []) ∷ (28 ∷ 0 ∷ 2 ∷ []) ∷ [])) 24 gives leaves (answer 6 2 0) (fresh_from 0 24)
    -- check by hand
    ∷ to_check (nodes ((2 ∷ 0 ∷ 0 ∷ 0 ∷ 0 ∷ 0 ∷ 2 ∷ 2 ∷ 2 ∷ 4 ∷ 6 ∷ []) ∷ (2 ∷ 0 ∷ 0 ∷ 0 ∷ 0 ∷ 2 ∷ 2 ∷ 2 ∷ 2 ∷ 4 ∷ 6 ∷ []) ∷ (30 ∷ 0 ∷ 2 ∷ []) ∷ [])) 24 gives leaves (answer 0 0 0) (words (0 ∷ 2 ∷ 2 ∷ 2 ∷ 4 ∷ 6 ∷ 0 ∷ 0 ∷ 0 ∷ 2 ∷ 2 ∷ 2 ∷ 4 ∷ 6 ∷ 0 ∷ 0 ∷ 0 ∷ 2 ∷ 0 ∷ 0 ∷ 4 ∷ 6 ∷ 0 ∷ 0 ∷ []))
    -- check by hand
    ∷ to_check (nodes ((2 ∷ 0 ∷ 0 ∷ 0 ∷ 0 ∷ 0 ∷ 2 ∷ 2 ∷ 2 ∷ 4 ∷ 6 ∷ []) ∷ (2 ∷ 0 ∷ 0 ∷ 0 ∷ 6 ∷ 2 ∷ 2 ∷ 2 ∷ 2 ∷ 4 ∷ 6 ∷ []) ∷ (30 ∷ 0 ∷ 2 ∷ []) ∷ [])) 24 gives leaves (answer 6 2 0) (fresh_from 0 24)
    -- check by hand
    ∷ to_check (nodes ((2 ∷ 0 ∷ 0 ∷ 0 ∷ 6 ∷ 0 ∷ 2 ∷ 2 ∷ 2 ∷ 4 ∷ 6 ∷ []) ∷ (2 ∷ 0 ∷ 0 ∷ 0 ∷ 0 ∷ 2 ∷ 2 ∷ 2 ∷ 2 ∷ 4 ∷ 6 ∷ []) ∷ (30 ∷ 0 ∷ 2 ∷ []) ∷ [])) 24 gives leaves (answer 6 2 0) (fresh_from 0 24)
    -- check by hand
    ∷ to_check (nodes ((2 ∷ 0 ∷ 0 ∷ 0 ∷ 0 ∷ 0 ∷ 2 ∷ 2 ∷ 2 ∷ 4 ∷ 6 ∷ []) ∷ (2 ∷ 0 ∷ 0 ∷ 0 ∷ 0 ∷ 2 ∷ 2 ∷ 2 ∷ 2 ∷ 4 ∷ 6 ∷ []) ∷ (32 ∷ 0 ∷ 2 ∷ []) ∷ [])) 24 gives leaves (answer 0 0 0) (words (times 3 (0 ∷ 2 ∷ 2 ∷ 2 ∷ 4 ∷ 6 ∷ 0 ∷ 0 ∷ [])))
    -- check by hand
    ∷ to_check (nodes ((2 ∷ 0 ∷ 0 ∷ 0 ∷ 0 ∷ 0 ∷ 2 ∷ 2 ∷ 2 ∷ 4 ∷ 6 ∷ []) ∷ (2 ∷ 0 ∷ 0 ∷ 0 ∷ 6 ∷ 2 ∷ 2 ∷ 2 ∷ 2 ∷ 4 ∷ 6 ∷ []) ∷ (32 ∷ 0 ∷ 2 ∷ []) ∷ [])) 24 gives leaves (answer 6 2 0) (fresh_from 0 24)
    -- check by hand
    ∷ to_check (nodes ((2 ∷ 0 ∷ 0 ∷ 0 ∷ 6 ∷ 0 ∷ 2 ∷ 2 ∷ 2 ∷ 4 ∷ 6 ∷ []) ∷ (2 ∷ 0 ∷ 0 ∷ 0 ∷ 0 ∷ 2 ∷ 2 ∷ 2 ∷ 2 ∷ 4 ∷ 6 ∷ []) ∷ (32 ∷ 0 ∷ 2 ∷ []) ∷ [])) 24 gives leaves (answer 6 2 0) (fresh_from 0 24)
    -- check by hand
    ∷ to_check (nodes ((2 ∷ 0 ∷ 0 ∷ 0 ∷ 0 ∷ 0 ∷ 2 ∷ 2 ∷ 2 ∷ 4 ∷ 6 ∷ []) ∷ (2 ∷ 0 ∷ 0 ∷ 0 ∷ 0 ∷ 2 ∷ 2 ∷ 2 ∷ 2 ∷ 4 ∷ 6 ∷ []) ∷ (34 ∷ 0 ∷ 2 ∷ []) ∷ [])) 24 gives leaves (answer 0 0 0) (words (times 3 (0 ∷ 2 ∷ 2 ∷ 2 ∷ 4 ∷ 6 ∷ 0 ∷ 0 ∷ [])))
    -- check by hand
    ∷ to_check (nodes ((2 ∷ 0 ∷ 0 ∷ 0 ∷ 0 ∷ 0 ∷ 2 ∷ 2 ∷ 2 ∷ 4 ∷ 6 ∷ []) ∷ (2 ∷ 0 ∷ 0 ∷ 0 ∷ 6 ∷ 2 ∷ 2 ∷ 2 ∷ 2 ∷ 4 ∷ 6 ∷ []) ∷ (34 ∷ 0 ∷ 2 ∷ []) ∷ [])) 24 gives leaves (answer 6 2 0) (fresh_from 0 24)
    -- check by hand
    ∷ to_check (nodes ((2 ∷ 0 ∷ 0 ∷ 0 ∷ 6 ∷ 0 ∷ 2 ∷ 2 ∷ 2 ∷ 4 ∷ 6 ∷ []) ∷ (2 ∷ 0 ∷ 0 ∷ 0 ∷ 0 ∷ 2 ∷ 2 ∷ 2 ∷ 2 ∷ 4 ∷ 6 ∷ []) ∷ (34 ∷ 0 ∷ 2 ∷ []) ∷ [])) 24 gives leaves (answer 6 2 0) (fresh_from 0 24)
    -- check by hand
    ∷ to_check (nodes ((2 ∷ 0 ∷ 0 ∷ 0 ∷ 6 ∷ 0 ∷ 2 ∷ 2 ∷ 2 ∷ 4 ∷ 6 ∷ []) ∷ (2 ∷ 0 ∷ 0 ∷ 0 ∷ 6 ∷ 2 ∷ 2 ∷ 2 ∷ 2 ∷ 4 ∷ 6 ∷ []) ∷ (32 ∷ 0 ∷ 2 ∷ []) ∷ [])) 24 gives leaves (answer 6 2 0) (fresh_from 0 24)
    -- check by hand
    ∷ to_check (nodes ((2 ∷ 0 ∷ 0 ∷ 0 ∷ 6 ∷ 0 ∷ 2 ∷ 2 ∷ 2 ∷ 4 ∷ 6 ∷ []) ∷ (2 ∷ 0 ∷ 0 ∷ 0 ∷ 6 ∷ 2 ∷ 2 ∷ 2 ∷ 2 ∷ 4 ∷ 6 ∷ []) ∷ (34 ∷ 0 ∷ 2 ∷ []) ∷ [])) 24 gives leaves (answer 6 2 0) (fresh_from 0 24)
    -- check by hand
    ∷ to_check (nodes ((2 ∷ 0 ∷ 0 ∷ 0 ∷ 2 ∷ 0 ∷ 2 ∷ 2 ∷ 2 ∷ 4 ∷ 6 ∷ []) ∷ (2 ∷ 0 ∷ 0 ∷ 0 ∷ 6 ∷ 2 ∷ 2 ∷ 2 ∷ 2 ∷ 4 ∷ 6 ∷ []) ∷ (2 ∷ 0 ∷ 0 ∷ 0 ∷ 6 ∷ 4 ∷ 2 ∷ 2 ∷ 2 ∷ 4 ∷ 6 ∷ []) ∷ (36 ∷ 0 ∷ 2 ∷ 4 ∷ []) ∷ [])) 32 gives leaves (answer 6 3 0) (fresh_from 0 32)
    -- check by hand
    ∷ to_check (nodes ((2 ∷ 0 ∷ 0 ∷ 0 ∷ 0 ∷ 0 ∷ 2 ∷ 2 ∷ 2 ∷ 4 ∷ 6 ∷ []) ∷ (2 ∷ 0 ∷ 0 ∷ 0 ∷ 0 ∷ 2 ∷ 2 ∷ 2 ∷ 2 ∷ 4 ∷ 6 ∷ []) ∷ (2 ∷ 0 ∷ 0 ∷ 0 ∷ 6 ∷ 4 ∷ 2 ∷ 2 ∷ 2 ∷ 4 ∷ 6 ∷ []) ∷ (36 ∷ 0 ∷ 2 ∷ 4 ∷ []) ∷ [])) 32 gives leaves (answer 6 3 0) (fresh_from 0 32)
    -- check by hand
    ∷ to_check (nodes ((2 ∷ 0 ∷ 0 ∷ 0 ∷ 0 ∷ 0 ∷ 2 ∷ 2 ∷ 2 ∷ 4 ∷ 6 ∷ []) ∷ (2 ∷ 0 ∷ 0 ∷ 0 ∷ 6 ∷ 2 ∷ 2 ∷ 2 ∷ 2 ∷ 4 ∷ 6 ∷ []) ∷ (2 ∷ 0 ∷ 0 ∷ 0 ∷ 0 ∷ 4 ∷ 2 ∷ 2 ∷ 2 ∷ 4 ∷ 6 ∷ []) ∷ (36 ∷ 0 ∷ 2 ∷ 4 ∷ []) ∷ [])) 32 gives leaves (answer 6 3 0) (fresh_from 0 32)
    -- check by hand
    ∷ to_check (nodes ((2 ∷ 0 ∷ 0 ∷ 0 ∷ 0 ∷ 0 ∷ 2 ∷ 2 ∷ 2 ∷ 4 ∷ 6 ∷ []) ∷ (2 ∷ 0 ∷ 0 ∷ 0 ∷ 0 ∷ 2 ∷ 2 ∷ 2 ∷ 2 ∷ 4 ∷ 6 ∷ []) ∷ (2 ∷ 0 ∷ 0 ∷ 0 ∷ 0 ∷ 4 ∷ 2 ∷ 2 ∷ 2 ∷ 4 ∷ 6 ∷ []) ∷ (36 ∷ 0 ∷ 2 ∷ 4 ∷ []) ∷ [])) 32 gives leaves (answer 0 0 0) (words (times 4 (0 ∷ 2 ∷ 2 ∷ 2 ∷ 4 ∷ 6 ∷ 0 ∷ 0 ∷ [])))
    -- check by hand
    ∷ to_check (nodes ((2 ∷ 0 ∷ 0 ∷ 0 ∷ 0 ∷ 0 ∷ 2 ∷ 2 ∷ 2 ∷ 4 ∷ 6 ∷ []) ∷ (38 ∷ 0 ∷ 0 ∷ 0 ∷ 0 ∷ 2 ∷ []) ∷ [])) 16 gives leaves (answer 6 1 0) (fresh_from 0 16)
    -- check by hand
    ∷ to_check (nodes ((2 ∷ 0 ∷ 0 ∷ 0 ∷ 1 ∷ 0 ∷ 2 ∷ 7 ∷ 20 ∷ 4 ∷ 6 ∷ []) ∷ [])) 8 gives leaves (answer 5 0 0) (fresh_from 0 8)
    -- check by hand
    ∷ to_check (nodes ((2 ∷ 0 ∷ 0 ∷ 0 ∷ 6 ∷ 0 ∷ 2 ∷ 2 ∷ 2 ∷ 4 ∷ 6 ∷ []) ∷ (16 ∷ 0 ∷ 0 ∷ 0 ∷ 1 ∷ []) ∷ [])) 16 gives leaves (answer 5 1 0) (fresh_from 0 16)
    -- check by hand
    ∷ to_check (nodes ((0 ∷ 0 ∷ 0 ∷ 0 ∷ 0 ∷ 1 ∷ []) ∷ [])) 8 gives leaves (answer 11 0 0) (fresh_from 0 8)
    -- check by hand
    ∷ to_check (nodes ((0 ∷ 0 ∷ 0 ∷ 0 ∷ 0 ∷ 4 ∷ []) ∷ [])) 8 gives leaves (answer 11 0 0) (fresh_from 0 8)
    -- check by hand
    ∷ to_check (nodes ((2 ∷ 0 ∷ 0 ∷ 0 ∷ 0 ∷ 0 ∷ 2 ∷ 1 ∷ 2 ∷ []) ∷ [])) 8 gives leaves (answer 11 0 0) (fresh_from 0 8)
    -- check by hand
    ∷ to_check (nodes ((2 ∷ 0 ∷ 0 ∷ 0 ∷ 0 ∷ 0 ∷ 2 ∷ 0 ∷ 4 ∷ []) ∷ [])) 8 gives leaves (answer 11 0 0) (fresh_from 0 8)
    -- check by hand
    ∷ to_check (nodes ((0 ∷ 0 ∷ 0 ∷ 0 ∷ 2 ∷ 1 ∷ []) ∷ [])) 8 gives leaves (answer 11 0 0) (fresh_from 0 8)
    -- check by hand
    ∷ to_check (nodes ((0 ∷ 0 ∷ 0 ∷ 0 ∷ 2 ∷ 512 ∷ []) ∷ [])) 8 gives leaves (answer 11 0 0) (fresh_from 0 8)
    -- check by hand
    ∷ to_check (nodes ((2 ∷ 0 ∷ 0 ∷ 0 ∷ 2 ∷ 0 ∷ 2 ∷ 1 ∷ 510 ∷ []) ∷ [])) 8 gives leaves (answer 11 0 0) (fresh_from 0 8)
    -- check by hand
    ∷ to_check (nodes ((2 ∷ 0 ∷ 0 ∷ 0 ∷ 2 ∷ 0 ∷ 2 ∷ 0 ∷ 512 ∷ []) ∷ [])) 8 gives leaves (answer 11 0 0) (fresh_from 0 8)
    -- check by hand
    ∷ to_check (nodes ((0 ∷ 0 ∷ 0 ∷ 0 ∷ 4 ∷ 65535 ∷ []) ∷ [])) 8 gives leaves (answer 11 0 0) (fresh_from 0 8)
    -- check by hand
    ∷ to_check (nodes ((0 ∷ 0 ∷ 0 ∷ 0 ∷ 4 ∷ 65536 ∷ []) ∷ [])) 8 gives leaves (answer 11 0 0) (fresh_from 0 8)
    -- check by hand
    ∷ to_check (nodes ((2 ∷ 0 ∷ 0 ∷ 0 ∷ 4 ∷ 0 ∷ 2 ∷ 65535 ∷ 65534 ∷ []) ∷ [])) 8 gives leaves (answer 11 0 0) (fresh_from 0 8)
    -- check by hand
    ∷ to_check (nodes ((2 ∷ 0 ∷ 0 ∷ 0 ∷ 4 ∷ 0 ∷ 2 ∷ 65533 ∷ 65536 ∷ []) ∷ [])) 8 gives leaves (answer 11 0 0) (fresh_from 0 8)
    -- check by hand
    ∷ to_check (nodes ((0 ∷ 0 ∷ 0 ∷ 0 ∷ 6 ∷ 4294967297 ∷ []) ∷ [])) 8 gives leaves (answer 11 0 0) (fresh_from 0 8)
    -- check by hand
    ∷ to_check (nodes ((0 ∷ 0 ∷ 0 ∷ 0 ∷ 6 ∷ 4294967296 ∷ []) ∷ [])) 8 gives leaves (answer 11 0 0) (fresh_from 0 8)
    -- check by hand
    ∷ to_check (nodes ((2 ∷ 0 ∷ 0 ∷ 0 ∷ 6 ∷ 0 ∷ 2 ∷ 4294967297 ∷ 4294967294 ∷ []) ∷ [])) 8 gives leaves (answer 11 0 0) (fresh_from 0 8)
    -- check by hand
    ∷ to_check (nodes ((2 ∷ 0 ∷ 0 ∷ 0 ∷ 6 ∷ 0 ∷ 2 ∷ 4294967295 ∷ 4294967296 ∷ []) ∷ [])) 8 gives leaves (answer 11 0 0) (fresh_from 0 8)
    -- check by hand
    ∷ to_check (nodes ([] ∷ (0 ∷ 0 ∷ 0 ∷ 0 ∷ 0 ∷ 2 ∷ []) ∷ (2 ∷ 0 ∷ 0 ∷ 0 ∷ 0 ∷ 0 ∷ 2 ∷ 0 ∷ 2 ∷ []) ∷ (0 ∷ 0 ∷ 0 ∷ 0 ∷ 2 ∷ []) ∷ (0 ∷ 0 ∷ 0 ∷ 0 ∷ 2 ∷ 510 ∷ []) ∷ (2 ∷ 0 ∷ 0 ∷ 0 ∷ 2 ∷ 2 ∷ 2 ∷ 0 ∷ 510 ∷ []) ∷ (0 ∷ 0 ∷ 0 ∷ 0 ∷ 4 ∷ 65533 ∷ []) ∷ (0 ∷ 0 ∷ 0 ∷ 0 ∷ 4 ∷ 65534 ∷ []) ∷ (2 ∷ 0 ∷ 0 ∷ 0 ∷ 4 ∷ 4 ∷ 2 ∷ 65533 ∷ 65534 ∷ []) ∷ (0 ∷ 0 ∷ 0 ∷ 0 ∷ 6 ∷ 4294967295 ∷ []) ∷ (0 ∷ 0 ∷ 0 ∷ 0 ∷ 6 ∷ 4294967294 ∷ []) ∷ (2 ∷ 0 ∷ 0 ∷ 0 ∷ 6 ∷ 6 ∷ 2 ∷ 4294967295 ∷ 4294967294 ∷ []) ∷ [])) 96 gives leaves (answer 0 0 0) (words (0 ∷ 0 ∷ 0 ∷ 0 ∷ 0 ∷ 0 ∷ 0 ∷ 0 ∷ 0 ∷ 0 ∷ 2 ∷ 2 ∷ 0 ∷ 0 ∷ 0 ∷ 0 ∷ 0 ∷ 2 ∷ 0 ∷ 2 ∷ 0 ∷ 0 ∷ 0 ∷ 0 ∷ 2 ∷ 0 ∷ 0 ∷ 0 ∷ 0 ∷ 0 ∷ 0 ∷ 0 ∷ 2 ∷ 0 ∷ 510 ∷ 510 ∷ 0 ∷ 0 ∷ 0 ∷ 0 ∷ 2 ∷ 2 ∷ 0 ∷ 510 ∷ 0 ∷ 0 ∷ 0 ∷ 0 ∷ 4 ∷ 0 ∷ 65533 ∷ 65533 ∷ 0 ∷ 0 ∷ 0 ∷ 0 ∷ 4 ∷ 0 ∷ 65534 ∷ 65534 ∷ 0 ∷ 0 ∷ 0 ∷ 0 ∷ 4 ∷ 2 ∷ 65533 ∷ 65534 ∷ 0 ∷ 0 ∷ 0 ∷ 0 ∷ 6 ∷ 0 ∷ 4294967295 ∷ 4294967295 ∷ 0 ∷ 0 ∷ 0 ∷ 0 ∷ 6 ∷ 0 ∷ 4294967294 ∷ 4294967294 ∷ 0 ∷ 0 ∷ 0 ∷ 0 ∷ 6 ∷ 2 ∷ 4294967295 ∷ 4294967294 ∷ 0 ∷ 0 ∷ 0 ∷ 0 ∷ []))
    -- check by hand
    ∷ to_check (nodes ((2 ∷ 0 ∷ 0 ∷ 0 ∷ 6 ∷ 0 ∷ 1 ∷ 7 ∷ 20 ∷ 4 ∷ 6 ∷ []) ∷ [])) 8 gives leaves (answer 7 0 0) (fresh_from 0 8)
    -- check by hand
    ∷ to_check (nodes ((2 ∷ 0 ∷ 0 ∷ 0 ∷ 6 ∷ 0 ∷ 0 ∷ 7 ∷ 20 ∷ 4 ∷ 6 ∷ []) ∷ [])) 8 gives leaves (answer 7 0 0) (fresh_from 0 8)
    -- check by hand
    ∷ to_check (nodes ((2 ∷ 0 ∷ 0 ∷ 0 ∷ 6 ∷ 0 ∷ 2 ∷ 7 ∷ 20 ∷ 4 ∷ 6 ∷ []) ∷ [])) 8 gives leaves (answer 0 0 0) (words (6 ∷ 2 ∷ 7 ∷ 20 ∷ 4 ∷ 6 ∷ 0 ∷ 0 ∷ []))
    -- check by hand
    ∷ to_check (nodes ((2 ∷ 0 ∷ 0 ∷ 0 ∷ 6 ∷ 0 ∷ 510 ∷ 7 ∷ 20 ∷ 4 ∷ 6 ∷ []) ∷ [])) 8 gives leaves (answer 0 0 0) (words (6 ∷ 510 ∷ 7 ∷ 20 ∷ 4 ∷ 6 ∷ 0 ∷ 0 ∷ []))
    -- check by hand
    ∷ to_check (nodes ((2 ∷ 0 ∷ 0 ∷ 0 ∷ 6 ∷ 0 ∷ 512 ∷ 7 ∷ 20 ∷ 4 ∷ 6 ∷ []) ∷ [])) 8 gives leaves (answer 7 0 0) (fresh_from 0 8)
    -- check by hand
    ∷ to_check (nodes ((2 ∷ 0 ∷ 0 ∷ 0 ∷ 6 ∷ 0 ∷ 2 ∷ 2 ∷ 2 ∷ 4 ∷ 6 ∷ []) ∷ (40 ∷ 0 ∷ 0 ∷ 0 ∷ 0 ∷ 0 ∷ 1 ∷ []) ∷ [])) 16 gives leaves (answer 7 1 0) (fresh_from 0 16)
    -- check by hand
    ∷ to_check (nodes ((2 ∷ 0 ∷ 0 ∷ 0 ∷ 6 ∷ 0 ∷ 2 ∷ 2 ∷ 2 ∷ 4 ∷ 6 ∷ []) ∷ (40 ∷ []) ∷ [])) 16 gives leaves (answer 7 1 0) (fresh_from 0 16)
    ∷ []

pub table29_agrees : Agree table29
unfolding everything
table29_agrees = refl
