-- Written by tests/model/tables.py: change that script or cases.py, never this file.
use mathlib.Core.Path.{refl}
use mathlib.Core.List.{List, [], ◌∷◌}
use Rattle.guarantees.proofs.Everything.{everything}
use Rattle.agreement.specs.Cases.{words, nodes, times, fresh_from, flags_from, to_check, to_unpack_check, to_run, to_lookup, to_list, leaves, leaves_both, finds, number, text, answer, Case, ◌gives◌, Agree}

abbrev pub table34 : List Case
table34 =
    -- lookup by hand
    to_lookup (nodes ((2 ∷ 0 ∷ 0 ∷ 0 ∷ 6 ∷ 0 ∷ 2 ∷ 0 ∷ 2 ∷ 2 ∷ 2 ∷ 2 ∷ 2 ∷ []) ∷ (12 ∷ 0 ∷ 0 ∷ 0 ∷ 0 ∷ 0 ∷ 0 ∷ 0 ∷ 0 ∷ 2 ∷ 2 ∷ 6 ∷ 2 ∷ 0 ∷ 0 ∷ 2 ∷ []) ∷ [])) 1 0 gives finds (answer 0 0 0) 2 0 0
    -- lookup by hand
    ∷ to_lookup (nodes ((2 ∷ 0 ∷ 0 ∷ 0 ∷ 6 ∷ 0 ∷ 2 ∷ 0 ∷ 2 ∷ 2 ∷ 2 ∷ 2 ∷ 2 ∷ []) ∷ (12 ∷ 0 ∷ 0 ∷ 0 ∷ 0 ∷ 0 ∷ 0 ∷ 0 ∷ 0 ∷ 2 ∷ 2 ∷ 6 ∷ 2 ∷ 0 ∷ 0 ∷ 2 ∷ []) ∷ [])) 1 2 gives finds (answer 0 0 0) 2 0 0
    -- lookup by hand
    ∷ to_lookup (nodes ((2 ∷ 0 ∷ 0 ∷ 0 ∷ 6 ∷ 0 ∷ 2 ∷ 0 ∷ 2 ∷ 4 ∷ 4 ∷ 4 ∷ 4 ∷ []) ∷ (6 ∷ 0 ∷ 0 ∷ 0 ∷ 0 ∷ 0 ∷ 0 ∷ 0 ∷ 0 ∷ 0 ∷ 0 ∷ 0 ∷ 2 ∷ []) ∷ [])) 1 0 gives finds (answer 0 0 0) 1 0 1
    -- lookup by hand
    ∷ to_lookup (nodes ((2 ∷ 0 ∷ 0 ∷ 0 ∷ 6 ∷ 0 ∷ 2 ∷ 0 ∷ 2 ∷ 4 ∷ 4 ∷ 4 ∷ 4 ∷ []) ∷ (14 ∷ 0 ∷ 0 ∷ 0 ∷ 0 ∷ 0 ∷ 0 ∷ 0 ∷ 0 ∷ 4 ∷ 4 ∷ 4 ∷ 2 ∷ 0 ∷ 0 ∷ 0 ∷ 2 ∷ []) ∷ [])) 1 0 gives finds (answer 0 0 0) 1 0 1
    -- lookup by hand
    ∷ to_lookup (nodes ((2 ∷ 0 ∷ 0 ∷ 0 ∷ 6 ∷ 0 ∷ 2 ∷ 0 ∷ 2 ∷ 4 ∷ 4 ∷ 4 ∷ 2 ∷ []) ∷ (10 ∷ 0 ∷ 0 ∷ 0 ∷ 0 ∷ 0 ∷ 0 ∷ 0 ∷ 0 ∷ 4 ∷ 4 ∷ 4 ∷ 4 ∷ []) ∷ [])) 1 15 gives finds (answer 0 0 0) 1 0 7
    -- lookup by hand
    ∷ to_lookup (nodes ((2 ∷ 0 ∷ 0 ∷ 0 ∷ 6 ∷ 0 ∷ 2 ∷ 0 ∷ 2 ∷ 2 ∷ 2 ∷ 2 ∷ 2 ∷ []) ∷ (12 ∷ 0 ∷ 0 ∷ 0 ∷ 0 ∷ 0 ∷ 0 ∷ 0 ∷ 0 ∷ 2 ∷ 2 ∷ 2 ∷ 6 ∷ 0 ∷ 0 ∷ 0 ∷ 2 ∷ []) ∷ [])) 1 0 gives finds (answer 0 0 0) 2 0 0
    -- lookup by hand
    ∷ to_lookup (nodes ((2 ∷ 0 ∷ 0 ∷ 0 ∷ 6 ∷ 0 ∷ 2 ∷ 0 ∷ 2 ∷ 2 ∷ 2 ∷ 2 ∷ 2 ∷ []) ∷ (12 ∷ 0 ∷ 0 ∷ 0 ∷ 0 ∷ 0 ∷ 0 ∷ 0 ∷ 0 ∷ 2 ∷ 2 ∷ 2 ∷ 6 ∷ 0 ∷ 0 ∷ 0 ∷ 2 ∷ []) ∷ [])) 1 2 gives finds (answer 0 0 0) 2 0 0
    -- lookup by hand
    ∷ to_lookup (nodes ((2 ∷ 0 ∷ 0 ∷ 0 ∷ 6 ∷ 0 ∷ 2 ∷ 0 ∷ 2 ∷ 4 ∷ 6 ∷ 4 ∷ 8 ∷ []) ∷ (4 ∷ 0 ∷ 0 ∷ 0 ∷ 0 ∷ 0 ∷ 0 ∷ 0 ∷ 0 ∷ 2 ∷ 4 ∷ 6 ∷ []) ∷ [])) 1 5 gives finds (answer 0 0 0) 1 0 26
    -- lookup by hand
    ∷ to_lookup (nodes ((2 ∷ 0 ∷ 0 ∷ 0 ∷ 6 ∷ 0 ∷ 2 ∷ 0 ∷ 2 ∷ 4 ∷ 6 ∷ 4 ∷ 8 ∷ []) ∷ (4 ∷ 0 ∷ 0 ∷ 0 ∷ 0 ∷ 0 ∷ 0 ∷ 0 ∷ 0 ∷ 2 ∷ 4 ∷ 6 ∷ []) ∷ [])) 1 14 gives finds (answer 0 0 0) 1 0 7
    -- lookup by hand
    ∷ to_lookup (nodes ((2 ∷ 0 ∷ 0 ∷ 0 ∷ 6 ∷ 0 ∷ 2 ∷ 0 ∷ 2 ∷ 4 ∷ 6 ∷ 4 ∷ 8 ∷ []) ∷ (4 ∷ 0 ∷ 0 ∷ 0 ∷ 0 ∷ 0 ∷ 0 ∷ 0 ∷ 0 ∷ 6 ∷ 0 ∷ 2 ∷ 4 ∷ []) ∷ [])) 1 5 gives finds (answer 0 0 0) 1 0 20
    -- lookup by hand
    ∷ to_lookup (nodes ((2 ∷ 0 ∷ 0 ∷ 0 ∷ 6 ∷ 0 ∷ 2 ∷ 0 ∷ 2 ∷ 4 ∷ 6 ∷ 4 ∷ 8 ∷ []) ∷ (4 ∷ 0 ∷ 0 ∷ 0 ∷ 0 ∷ 0 ∷ 0 ∷ 0 ∷ 0 ∷ 6 ∷ 0 ∷ 2 ∷ 4 ∷ []) ∷ [])) 1 14 gives finds (answer 0 0 0) 1 0 9
    -- lookup by hand
    ∷ to_lookup (nodes ((2 ∷ 0 ∷ 0 ∷ 0 ∷ 6 ∷ 0 ∷ 2 ∷ 0 ∷ 2 ∷ 4 ∷ 6 ∷ 4 ∷ 8 ∷ []) ∷ (4 ∷ 0 ∷ 0 ∷ 0 ∷ 0 ∷ 0 ∷ 0 ∷ 0 ∷ 0 ∷ 2 ∷ 6 ∷ 0 ∷ 4 ∷ []) ∷ [])) 1 5 gives finds (answer 0 0 0) 1 0 5
    -- lookup by hand
    ∷ to_lookup (nodes ((2 ∷ 0 ∷ 0 ∷ 0 ∷ 6 ∷ 0 ∷ 2 ∷ 0 ∷ 2 ∷ 4 ∷ 6 ∷ 4 ∷ 8 ∷ []) ∷ (4 ∷ 0 ∷ 0 ∷ 0 ∷ 0 ∷ 0 ∷ 0 ∷ 0 ∷ 0 ∷ 2 ∷ 6 ∷ 0 ∷ 4 ∷ []) ∷ [])) 1 14 gives finds (answer 0 0 0) 1 0 27
    -- lookup by hand
    ∷ to_lookup (nodes ((2 ∷ 0 ∷ 0 ∷ 0 ∷ 6 ∷ 0 ∷ 2 ∷ 0 ∷ 2 ∷ 4 ∷ 6 ∷ 4 ∷ 8 ∷ []) ∷ (4 ∷ 0 ∷ 0 ∷ 0 ∷ 0 ∷ 0 ∷ 0 ∷ 0 ∷ 0 ∷ 4 ∷ 0 ∷ 6 ∷ 2 ∷ []) ∷ [])) 1 5 gives finds (answer 0 0 0) 1 0 17
    -- lookup by hand
    ∷ to_lookup (nodes ((2 ∷ 0 ∷ 0 ∷ 0 ∷ 6 ∷ 0 ∷ 2 ∷ 0 ∷ 2 ∷ 4 ∷ 6 ∷ 4 ∷ 8 ∷ []) ∷ (4 ∷ 0 ∷ 0 ∷ 0 ∷ 0 ∷ 0 ∷ 0 ∷ 0 ∷ 0 ∷ 4 ∷ 0 ∷ 6 ∷ 2 ∷ []) ∷ [])) 1 14 gives finds (answer 0 0 0) 1 0 40
    -- lookup by hand
    ∷ to_lookup (nodes ((2 ∷ 0 ∷ 0 ∷ 0 ∷ 6 ∷ 0 ∷ 2 ∷ 0 ∷ 2 ∷ 4 ∷ 4 ∷ []) ∷ (12 ∷ 0 ∷ 0 ∷ 0 ∷ 0 ∷ 0 ∷ 0 ∷ 0 ∷ 0 ∷ 8 ∷ 10 ∷ 0 ∷ 0 ∷ 2 ∷ 2 ∷ []) ∷ [])) 1 1 gives finds (answer 0 0 0) 2 0 0
    -- lookup by hand
    ∷ to_lookup (nodes ((2 ∷ 0 ∷ 0 ∷ 0 ∷ 6 ∷ 0 ∷ 2 ∷ 0 ∷ 2 ∷ 4 ∷ 4 ∷ []) ∷ (12 ∷ 0 ∷ 0 ∷ 0 ∷ 0 ∷ 0 ∷ 0 ∷ 0 ∷ 0 ∷ 8 ∷ 10 ∷ 0 ∷ 0 ∷ 2 ∷ 2 ∷ []) ∷ [])) 1 5 gives finds (answer 0 0 0) 2 0 0
    -- lookup by hand
    ∷ to_lookup (nodes ((2 ∷ 0 ∷ 0 ∷ 0 ∷ 6 ∷ 0 ∷ 2 ∷ 0 ∷ 2 ∷ 4 ∷ 4 ∷ []) ∷ (12 ∷ 0 ∷ 0 ∷ 0 ∷ 0 ∷ 0 ∷ 0 ∷ 0 ∷ 0 ∷ 8 ∷ 10 ∷ 0 ∷ 0 ∷ 2 ∷ 2 ∷ []) ∷ [])) 1 6 gives finds (answer 0 0 0) 1 0 0
    -- lookup by hand
    ∷ to_lookup (nodes ((2 ∷ 0 ∷ 0 ∷ 0 ∷ 6 ∷ 0 ∷ 2 ∷ 0 ∷ 2 ∷ 4 ∷ 4 ∷ []) ∷ (12 ∷ 0 ∷ 0 ∷ 0 ∷ 0 ∷ 0 ∷ 0 ∷ 0 ∷ 0 ∷ 8 ∷ 10 ∷ 0 ∷ 0 ∷ 2 ∷ 2 ∷ []) ∷ [])) 1 8 gives finds (answer 0 0 0) 2 0 0
    -- lookup by hand
    ∷ to_lookup (nodes ((2 ∷ 0 ∷ 0 ∷ 0 ∷ 6 ∷ 0 ∷ 2 ∷ 0 ∷ 2 ∷ 4 ∷ 4 ∷ []) ∷ (12 ∷ 0 ∷ 0 ∷ 0 ∷ 0 ∷ 0 ∷ 0 ∷ 0 ∷ 0 ∷ 8 ∷ 10 ∷ 0 ∷ 0 ∷ 2 ∷ 2 ∷ []) ∷ [])) 1 12 gives finds (answer 0 0 0) 1 0 3
    -- lookup by hand
    ∷ to_lookup (nodes ((2 ∷ 0 ∷ 0 ∷ 0 ∷ 6 ∷ 0 ∷ 2 ∷ 0 ∷ 2 ∷ 4 ∷ 4 ∷ []) ∷ (12 ∷ 0 ∷ 0 ∷ 0 ∷ 0 ∷ 0 ∷ 0 ∷ 0 ∷ 0 ∷ 8 ∷ 10 ∷ 0 ∷ 0 ∷ 2 ∷ 2 ∷ []) ∷ [])) 1 16 gives finds (answer 0 0 0) 2 0 0
    -- lookup by hand
    ∷ to_lookup (nodes ((2 ∷ 0 ∷ 0 ∷ 0 ∷ 6 ∷ 0 ∷ 2 ∷ 0 ∷ 2 ∷ 4 ∷ 6 ∷ []) ∷ (6 ∷ 0 ∷ 0 ∷ 0 ∷ 0 ∷ 0 ∷ 0 ∷ 0 ∷ 0 ∷ 2 ∷ []) ∷ (16 ∷ 2 ∷ 0 ∷ 0 ∷ 6 ∷ []) ∷ [])) 0 5 gives finds (answer 0 0 0) 1 0 5
    -- lookup by hand
    ∷ to_lookup (nodes ((2 ∷ 0 ∷ 0 ∷ 0 ∷ 6 ∷ 0 ∷ 2 ∷ 0 ∷ 2 ∷ 4 ∷ 6 ∷ []) ∷ (6 ∷ 0 ∷ 0 ∷ 0 ∷ 0 ∷ 0 ∷ 0 ∷ 0 ∷ 0 ∷ 2 ∷ []) ∷ (16 ∷ 2 ∷ 0 ∷ 0 ∷ 6 ∷ []) ∷ [])) 0 6 gives finds (answer 17 0 0) 0 0 0
    -- lookup by hand
    ∷ to_lookup (nodes ((2 ∷ 0 ∷ 0 ∷ 0 ∷ 6 ∷ 0 ∷ 2 ∷ 0 ∷ 2 ∷ 4 ∷ 6 ∷ []) ∷ (6 ∷ 0 ∷ 0 ∷ 0 ∷ 0 ∷ 0 ∷ 0 ∷ 0 ∷ 0 ∷ 2 ∷ []) ∷ (16 ∷ 2 ∷ 0 ∷ 0 ∷ 6 ∷ []) ∷ [])) 1 5 gives finds (answer 0 0 0) 1 0 2
    -- lookup by hand
    ∷ to_lookup (nodes ((2 ∷ 0 ∷ 0 ∷ 0 ∷ 6 ∷ 0 ∷ 2 ∷ 0 ∷ 2 ∷ 4 ∷ 6 ∷ []) ∷ (6 ∷ 0 ∷ 0 ∷ 0 ∷ 0 ∷ 0 ∷ 0 ∷ 0 ∷ 0 ∷ 2 ∷ []) ∷ (16 ∷ 2 ∷ 0 ∷ 0 ∷ 6 ∷ []) ∷ [])) 1 6 gives finds (answer 17 0 0) 0 0 0
    -- lookup by hand
    ∷ to_lookup (nodes ((2 ∷ 0 ∷ 0 ∷ 0 ∷ 6 ∷ 0 ∷ 2 ∷ 0 ∷ 2 ∷ 4 ∷ 6 ∷ []) ∷ (6 ∷ 0 ∷ 0 ∷ 0 ∷ 0 ∷ 0 ∷ 0 ∷ 0 ∷ 0 ∷ 2 ∷ []) ∷ (16 ∷ 2 ∷ 0 ∷ 0 ∷ 6 ∷ []) ∷ [])) 2 5 gives finds (answer 0 0 0) 1 2 5
    -- lookup by hand
    ∷ to_lookup (nodes ((2 ∷ 0 ∷ 0 ∷ 0 ∷ 6 ∷ 0 ∷ 2 ∷ 0 ∷ 2 ∷ 4 ∷ 6 ∷ []) ∷ (6 ∷ 0 ∷ 0 ∷ 0 ∷ 0 ∷ 0 ∷ 0 ∷ 0 ∷ 0 ∷ 2 ∷ []) ∷ (16 ∷ 2 ∷ 0 ∷ 0 ∷ 6 ∷ []) ∷ [])) 2 6 gives finds (answer 17 0 0) 0 0 0
    -- lookup by hand
    ∷ to_lookup (nodes ((2 ∷ 0 ∷ 0 ∷ 0 ∷ 6 ∷ 0 ∷ 2 ∷ 0 ∷ 2 ∷ 4 ∷ 6 ∷ []) ∷ (6 ∷ 0 ∷ 0 ∷ 0 ∷ 0 ∷ 0 ∷ 0 ∷ 0 ∷ 0 ∷ 2 ∷ []) ∷ (16 ∷ 2 ∷ 0 ∷ 0 ∷ 6 ∷ []) ∷ [])) 3 0 gives finds (answer 17 0 0) 0 0 0
    -- lookup by hand
    ∷ to_lookup (nodes ((2 ∷ 0 ∷ 0 ∷ 0 ∷ 6 ∷ 0 ∷ 2 ∷ 0 ∷ 2 ∷ 4 ∷ 6 ∷ []) ∷ (6 ∷ 0 ∷ 0 ∷ 0 ∷ 0 ∷ 0 ∷ 0 ∷ 0 ∷ 0 ∷ 2 ∷ []) ∷ (16 ∷ 2 ∷ 0 ∷ 0 ∷ 6 ∷ []) ∷ [])) 3 6 gives finds (answer 17 0 0) 0 0 0
    -- no reading
    ∷ to_check (nodes ((2 ∷ 0 ∷ 0 ∷ 0 ∷ 4 ∷ 0 ∷ 2 ∷ 32767 ∷ 32766 ∷ []) ∷ (18 ∷ []) ∷ [])) 16 gives leaves (answer 11 1 0) (fresh_from 0 16)
    -- no reading
    ∷ to_check (nodes ((2 ∷ 0 ∷ 0 ∷ 0 ∷ 4 ∷ 0 ∷ 2 ∷ 32765 ∷ 32766 ∷ []) ∷ (18 ∷ []) ∷ [])) 16 gives leaves (answer 0 0 0) (words (4 ∷ 2 ∷ 32765 ∷ 32766 ∷ 0 ∷ 0 ∷ 0 ∷ 0 ∷ 4 ∷ 2 ∷ 65531 ∷ 65532 ∷ 0 ∷ 0 ∷ 0 ∷ 0 ∷ []))
    -- no reading
    ∷ to_check (nodes ((2 ∷ 0 ∷ 0 ∷ 0 ∷ 4 ∷ 0 ∷ 2 ∷ 511 ∷ 2 ∷ []) ∷ (0 ∷ 0 ∷ 0 ∷ 0 ∷ 4 ∷ 256 ∷ []) ∷ (20 ∷ 0 ∷ 2 ∷ []) ∷ [])) 24 gives leaves (answer 11 2 0) (fresh_from 0 24)
    -- no reading
    ∷ to_check (nodes ((2 ∷ 0 ∷ 0 ∷ 0 ∷ 4 ∷ 0 ∷ 2 ∷ 8191 ∷ 0 ∷ 16 ∷ []) ∷ (38 ∷ 0 ∷ 0 ∷ 0 ∷ 0 ∷ 0 ∷ 0 ∷ 0 ∷ 0 ∷ 2 ∷ []) ∷ [])) 16 gives leaves (answer 11 1 0) (fresh_from 0 16)
    -- no reading
    ∷ to_check (nodes ((2 ∷ 0 ∷ 0 ∷ 0 ∷ 6 ∷ 0 ∷ 2 ∷ 65535 ∷ []) ∷ (16 ∷ 0 ∷ 0 ∷ 0 ∷ 4 ∷ []) ∷ [])) 16 gives leaves (answer 11 1 0) (fresh_from 0 16)
    -- no reading
    ∷ to_check (nodes ((2 ∷ 0 ∷ 0 ∷ 0 ∷ 4 ∷ 0 ∷ 2 ∷ 32767 ∷ 32766 ∷ []) ∷ (2 ∷ 0 ∷ 0 ∷ 0 ∷ 4 ∷ 2 ∷ 2 ∷ 32765 ∷ 32768 ∷ []) ∷ (18 ∷ 0 ∷ 2 ∷ []) ∷ (2 ∷ 0 ∷ 0 ∷ 0 ∷ 4 ∷ 4 ∷ 2 ∷ 433 ∷ 434 ∷ []) ∷ (0 ∷ 0 ∷ 0 ∷ 0 ∷ 4 ∷ 302 ∷ []) ∷ (20 ∷ 6 ∷ 8 ∷ []) ∷ (2 ∷ 0 ∷ 0 ∷ 0 ∷ 4 ∷ 6 ∷ 2 ∷ 9361 ∷ 9362 ∷ 14 ∷ []) ∷ (38 ∷ 12 ∷ 0 ∷ 0 ∷ 0 ∷ 0 ∷ 0 ∷ 0 ∷ 0 ∷ 2 ∷ []) ∷ (2 ∷ 0 ∷ 0 ∷ 0 ∷ 6 ∷ 8 ∷ 2 ∷ 65533 ∷ 65534 ∷ []) ∷ (16 ∷ 16 ∷ 0 ∷ 0 ∷ 4 ∷ []) ∷ (0 ∷ 0 ∷ 0 ∷ 0 ∷ 4 ∷ 1 ∷ []) ∷ (24 ∷ 18 ∷ 20 ∷ []) ∷ (22 ∷ 18 ∷ 18 ∷ []) ∷ (0 ∷ 0 ∷ 0 ∷ 0 ∷ 0 ∷ 2 ∷ []) ∷ (36 ∷ 26 ∷ 18 ∷ 18 ∷ []) ∷ [])) 120 gives leaves (answer 0 0 0) (words (4 ∷ 2 ∷ 32767 ∷ 32766 ∷ 0 ∷ 0 ∷ 0 ∷ 0 ∷ 4 ∷ 2 ∷ 32765 ∷ 32768 ∷ 0 ∷ 0 ∷ 0 ∷ 0 ∷ 4 ∷ 2 ∷ 65533 ∷ 65534 ∷ 0 ∷ 0 ∷ 0 ∷ 0 ∷ 4 ∷ 2 ∷ 433 ∷ 434 ∷ 0 ∷ 0 ∷ 0 ∷ 0 ∷ 4 ∷ 0 ∷ 302 ∷ 302 ∷ 0 ∷ 0 ∷ 0 ∷ 0 ∷ 4 ∷ 2 ∷ 65533 ∷ 65534 ∷ 0 ∷ 0 ∷ 0 ∷ 0 ∷ 4 ∷ 2 ∷ 9361 ∷ 9362 ∷ 14 ∷ 0 ∷ 0 ∷ 0 ∷ 4 ∷ 2 ∷ 65533 ∷ 65534 ∷ 2 ∷ 0 ∷ 0 ∷ 0 ∷ 6 ∷ 2 ∷ 65533 ∷ 65534 ∷ 0 ∷ 0 ∷ 0 ∷ 0 ∷ 4 ∷ 2 ∷ 65533 ∷ 65534 ∷ 0 ∷ 0 ∷ 0 ∷ 0 ∷ 4 ∷ 0 ∷ 1 ∷ 1 ∷ 0 ∷ 0 ∷ 0 ∷ 0 ∷ 4 ∷ 2 ∷ 65533 ∷ 65534 ∷ 0 ∷ 0 ∷ 0 ∷ 0 ∷ 4 ∷ 2 ∷ 65533 ∷ 65534 ∷ 0 ∷ 0 ∷ 0 ∷ 0 ∷ 0 ∷ 0 ∷ 2 ∷ 2 ∷ 0 ∷ 0 ∷ 0 ∷ 0 ∷ 4 ∷ 2 ∷ 65533 ∷ 65534 ∷ 0 ∷ 0 ∷ 0 ∷ 0 ∷ []))
    -- no reading
    ∷ to_run (nodes ((2 ∷ 0 ∷ 0 ∷ 0 ∷ 4 ∷ 0 ∷ 2 ∷ 65533 ∷ 65534 ∷ 6 ∷ []) ∷ [])) (words (65534 ∷ 65533 ∷ 65535 ∷ [])) (1 ∷ 1 ∷ 1 ∷ []) 3 3 gives leaves_both (answer 16 2 0) (fresh_from 0 3) (flags_from 0 3)
    -- no reading
    ∷ to_run (nodes ((2 ∷ 0 ∷ 0 ∷ 0 ∷ 4 ∷ 0 ∷ 2 ∷ 65533 ∷ 65534 ∷ 6 ∷ []) ∷ [])) (words (65535 ∷ 65535 ∷ 65535 ∷ [])) (0 ∷ 1 ∷ 1 ∷ []) 3 3 gives leaves_both (answer 16 1 0) (fresh_from 0 3) (flags_from 0 3)
    -- no reading
    ∷ to_run (nodes ((2 ∷ 0 ∷ 0 ∷ 0 ∷ 4 ∷ 0 ∷ 2 ∷ 65533 ∷ 65534 ∷ 6 ∷ []) ∷ [])) (words (18 ∷ 65535 ∷ 18 ∷ [])) (2 ∷ 1 ∷ 1 ∷ []) 3 3 gives leaves_both (answer 15 0 0) (fresh_from 0 3) (flags_from 0 3)
    -- no reading
    ∷ to_run (nodes ((2 ∷ 0 ∷ 0 ∷ 0 ∷ 4 ∷ 0 ∷ 2 ∷ 65533 ∷ 65534 ∷ 6 ∷ []) ∷ [])) (words (18 ∷ 65535 ∷ 65535 ∷ [])) (1 ∷ 2 ∷ 1 ∷ []) 3 3 gives leaves_both (answer 15 1 0) (fresh_from 0 3) (flags_from 0 3)
    -- no reading
    ∷ to_run (nodes ((2 ∷ 0 ∷ 0 ∷ 0 ∷ 4 ∷ 0 ∷ 2 ∷ 65533 ∷ 65534 ∷ 6 ∷ []) ∷ [])) (words (65535 ∷ 18 ∷ 80000 ∷ [])) (1 ∷ 2 ∷ 1 ∷ []) 3 3 gives leaves_both (answer 16 0 0) (fresh_from 0 3) (flags_from 0 3)
    -- no reading
    ∷ to_run (nodes ((2 ∷ 0 ∷ 0 ∷ 0 ∷ 4 ∷ 0 ∷ 2 ∷ 65533 ∷ 65534 ∷ 6 ∷ []) ∷ [])) (words (80000 ∷ 65535 ∷ 18 ∷ [])) (1 ∷ 1 ∷ 1 ∷ []) 3 3 gives leaves_both (answer 16 0 0) (fresh_from 0 3) (flags_from 0 3)
    -- no reading
    ∷ to_run (nodes ((2 ∷ 0 ∷ 0 ∷ 0 ∷ 4 ∷ 0 ∷ 2 ∷ 65533 ∷ 65534 ∷ 6 ∷ []) ∷ (6 ∷ 0 ∷ 0 ∷ 0 ∷ 0 ∷ 0 ∷ 0 ∷ 0 ∷ 0 ∷ 2 ∷ []) ∷ [])) (words (65535 ∷ 14 ∷ 65535 ∷ [])) (0 ∷ 1 ∷ 0 ∷ []) 6 6 gives leaves_both (answer 0 0 2) (words (0 ∷ 14 ∷ 0 ∷ 0 ∷ 14 ∷ 0 ∷ [])) (0 ∷ 1 ∷ 0 ∷ 0 ∷ 1 ∷ 0 ∷ [])
    -- no reading
    ∷ to_run (nodes ((2 ∷ 0 ∷ 0 ∷ 0 ∷ 6 ∷ 0 ∷ 2 ∷ 65535 ∷ 0 ∷ 4 ∷ []) ∷ (2 ∷ 0 ∷ 0 ∷ 0 ∷ 4 ∷ 2 ∷ 2 ∷ 65533 ∷ 0 ∷ 4 ∷ []) ∷ [])) (words (65535 ∷ 0 ∷ 65533 ∷ 65535 ∷ [])) (1 ∷ 1 ∷ 1 ∷ 1 ∷ []) 4 4 gives leaves_both (answer 16 3 0) (fresh_from 0 4) (flags_from 0 4)
    -- no reading
    ∷ to_run (nodes ((2 ∷ 0 ∷ 0 ∷ 0 ∷ 6 ∷ 0 ∷ 2 ∷ 65535 ∷ 0 ∷ 4 ∷ []) ∷ (2 ∷ 0 ∷ 0 ∷ 0 ∷ 4 ∷ 2 ∷ 2 ∷ 65533 ∷ 0 ∷ 4 ∷ []) ∷ (0 ∷ 0 ∷ 0 ∷ 0 ∷ 6 ∷ 65533 ∷ []) ∷ (0 ∷ 0 ∷ 0 ∷ 0 ∷ 6 ∷ 1 ∷ []) ∷ (18 ∷ 4 ∷ 6 ∷ []) ∷ (18 ∷ 0 ∷ 6 ∷ []) ∷ [])) (words (65535 ∷ 65535 ∷ 65533 ∷ 65535 ∷ [])) (1 ∷ 0 ∷ 1 ∷ 0 ∷ []) 9 9 gives leaves_both (answer 0 0 1) (words (65535 ∷ 0 ∷ 65533 ∷ 0 ∷ 65533 ∷ 1 ∷ 65535 ∷ 65537 ∷ 0 ∷ [])) (1 ∷ 0 ∷ 1 ∷ 0 ∷ 1 ∷ 1 ∷ 1 ∷ 1 ∷ 0 ∷ [])
    -- no reading
    ∷ to_run (nodes ((2 ∷ 0 ∷ 0 ∷ 0 ∷ 6 ∷ 0 ∷ 2 ∷ 65533 ∷ 0 ∷ 4 ∷ []) ∷ [])) (words (65533 ∷ 65535 ∷ [])) (1 ∷ 1 ∷ []) 2 2 gives leaves_both (answer 16 1 0) (fresh_from 0 2) (flags_from 0 2)
    -- no reading
    ∷ to_run (nodes ((0 ∷ 0 ∷ 0 ∷ 0 ∷ 4 ∷ 65535 ∷ []) ∷ [])) [] [] 1 1 gives leaves_both (answer 11 0 0) (fresh_from 0 1) (flags_from 0 1)
    -- no reading
    ∷ to_lookup (nodes ((0 ∷ 0 ∷ 0 ∷ 0 ∷ 4 ∷ 65535 ∷ []) ∷ [])) 0 0 gives finds (answer 11 0 0) 0 0 0
    -- no reading
    ∷ to_unpack_check (1 ∷ 0 ∷ 4 ∷ 255 ∷ 255 ∷ 3 ∷ []) gives number 720896
    -- no reading
    ∷ to_list (1 ∷ 0 ∷ 4 ∷ 255 ∷ 255 ∷ 3 ∷ []) gives text (114 ∷ 101 ∷ 102 ∷ 117 ∷ 115 ∷ 101 ∷ 100 ∷ 32 ∷ 49 ∷ 49 ∷ 32 ∷ 97 ∷ 116 ∷ 32 ∷ 48 ∷ 10 ∷ [])
    -- check of the three
    ∷ to_check (nodes ((0 ∷ 0 ∷ 0 ∷ 0 ∷ 0 ∷ 2 ∷ []) ∷ (0 ∷ 0 ∷ 0 ∷ 0 ∷ 0 ∷ 2 ∷ []) ∷ (42 ∷ 0 ∷ 2 ∷ []) ∷ [])) 24 gives leaves (answer 0 0 0) (words (times 3 (0 ∷ 0 ∷ 2 ∷ 2 ∷ 0 ∷ 0 ∷ 0 ∷ 0 ∷ [])))
    ∷ []

pub table34_agrees : Agree table34
unfolding everything
table34_agrees = refl
