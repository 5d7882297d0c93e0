-- Written by tests/model/tables.py: change that script or cases.py, never this file.
use mathlib.Core.Path.{refl}
use mathlib.Core.List.{List, [], ◌∷◌, ◌++◌}
use Rattle.guarantees.proofs.Everything.{everything}
use Rattle.agreement.specs.Cases.{nodes, flags_from, to_pack, leaves_bytes, answer, Case, ◌gives◌, Agree}

abbrev pub packs13 : List Case
packs13 =
    -- pack: word 16 unused, op 17
    to_pack (nodes ((26 ∷ 183 ∷ 186 ∷ []) ∷ (34 ∷ 239 ∷ 242 ∷ 0 ∷ 0 ∷ 0 ∷ 0 ∷ 0 ∷ 0 ∷ 0 ∷ 0 ∷ 0 ∷ 0 ∷ 0 ∷ 0 ∷ 0 ∷ 2 ∷ []) ∷ [])) 6 gives leaves_bytes (answer 3 1 0) (flags_from 0 6)
    -- pack: word 12 unused, op 12
    ∷ to_pack (nodes ((24 ∷ 169 ∷ 172 ∷ 0 ∷ 0 ∷ 0 ∷ 0 ∷ 0 ∷ 0 ∷ 0 ∷ 0 ∷ 0 ∷ 1 ∷ []) ∷ [])) 6 gives leaves_bytes (answer 3 0 0) (flags_from 0 6)
    -- pack: room 0, op 22
    ∷ to_pack (nodes ((44 ∷ 309 ∷ []) ∷ [])) 6 gives leaves_bytes (answer 0 0 6) (0 ∷ 2 ∷ 1 ∷ 22 ∷ 181 ∷ 2 ∷ [])
    -- pack: word 14 unused, op 13
    ∷ to_pack (nodes ((22 ∷ 155 ∷ 158 ∷ []) ∷ (22 ∷ 155 ∷ 158 ∷ []) ∷ (26 ∷ 183 ∷ 186 ∷ 0 ∷ 0 ∷ 0 ∷ 0 ∷ 0 ∷ 0 ∷ 0 ∷ 0 ∷ 0 ∷ 0 ∷ 0 ∷ 68719476736 ∷ []) ∷ [])) 6 gives leaves_bytes (answer 3 2 0) (flags_from 0 6)
    -- pack: edition, room 0
    ∷ to_pack (nodes ((42 ∷ []) ∷ [])) 6 gives leaves_bytes (answer 0 0 6) (0 ∷ 2 ∷ 1 ∷ 21 ∷ 0 ∷ 0 ∷ [])
    -- pack: edition, room -1
    ∷ to_pack (nodes ((42 ∷ []) ∷ (0 ∷ 0 ∷ 0 ∷ 0 ∷ 4 ∷ 10 ∷ []) ∷ [])) 8 gives leaves_bytes (answer 14 0 0) (flags_from 0 8)
    -- pack: edition, room -2
    ∷ to_pack (nodes ((44 ∷ []) ∷ [])) 3 gives leaves_bytes (answer 14 0 0) (flags_from 0 3)
    -- pack: edition, room -3
    ∷ to_pack (nodes ((44 ∷ []) ∷ (0 ∷ 0 ∷ 0 ∷ 0 ∷ 4 ∷ 10 ∷ []) ∷ [])) 5 gives leaves_bytes (answer 14 0 0) (flags_from 0 5)
    -- pack: edition, room 0
    ∷ to_pack (nodes ((46 ∷ 0 ∷ 0 ∷ 0 ∷ 0 ∷ 4 ∷ []) ∷ [])) 8 gives leaves_bytes (answer 0 0 8) (0 ∷ 2 ∷ 1 ∷ 23 ∷ 0 ∷ 0 ∷ 0 ∷ 4 ∷ [])
    -- pack: edition, room -1
    ∷ to_pack (nodes ((46 ∷ 0 ∷ 0 ∷ 0 ∷ 0 ∷ 4 ∷ []) ∷ (0 ∷ 0 ∷ 0 ∷ 0 ∷ 4 ∷ 10 ∷ []) ∷ [])) 10 gives leaves_bytes (answer 14 0 0) (flags_from 0 10)
    -- pack: edition, room -2
    ∷ to_pack (nodes ((0 ∷ 0 ∷ 0 ∷ 0 ∷ 4 ∷ 10 ∷ []) ∷ (42 ∷ []) ∷ [])) 7 gives leaves_bytes (answer 14 0 0) (flags_from 0 7)
    -- pack: edition, room -3
    ∷ to_pack (nodes ((0 ∷ 0 ∷ 0 ∷ 0 ∷ 4 ∷ 10 ∷ []) ∷ (42 ∷ []) ∷ (0 ∷ 0 ∷ 0 ∷ 0 ∷ 4 ∷ 10 ∷ []) ∷ [])) 9 gives leaves_bytes (answer 14 0 0) (flags_from 0 9)
    -- pack: edition, room 0
    ∷ to_pack (nodes ((0 ∷ 0 ∷ 0 ∷ 0 ∷ 4 ∷ 10 ∷ []) ∷ (44 ∷ []) ∷ [])) 8 gives leaves_bytes (answer 0 0 8) (0 ∷ 2 ∷ 2 ∷ 0 ∷ 4 ∷ 10 ∷ 22 ∷ 0 ∷ [])
    -- pack: edition, room -1
    ∷ to_pack (nodes ((0 ∷ 0 ∷ 0 ∷ 0 ∷ 4 ∷ 10 ∷ []) ∷ (44 ∷ []) ∷ (0 ∷ 0 ∷ 0 ∷ 0 ∷ 4 ∷ 10 ∷ []) ∷ [])) 10 gives leaves_bytes (answer 14 0 0) (flags_from 0 10)
    -- pack: edition, room -2
    ∷ to_pack (nodes ((0 ∷ 0 ∷ 0 ∷ 0 ∷ 4 ∷ 10 ∷ []) ∷ (46 ∷ 0 ∷ 0 ∷ 0 ∷ 0 ∷ 4 ∷ []) ∷ [])) 9 gives leaves_bytes (answer 14 0 0) (flags_from 0 9)
    -- pack: edition, room -3
    ∷ to_pack (nodes ((0 ∷ 0 ∷ 0 ∷ 0 ∷ 4 ∷ 10 ∷ []) ∷ (46 ∷ 0 ∷ 0 ∷ 0 ∷ 0 ∷ 4 ∷ []) ∷ (0 ∷ 0 ∷ 0 ∷ 0 ∷ 4 ∷ 10 ∷ []) ∷ [])) 11 gives leaves_bytes (answer 14 0 0) (flags_from 0 11)
    -- pack: edition, room 0
    ∷ to_pack (nodes ((0 ∷ 0 ∷ 0 ∷ 0 ∷ 4 ∷ 10 ∷ []) ∷ (46 ∷ 0 ∷ 0 ∷ 0 ∷ 0 ∷ 4 ∷ []) ∷ (0 ∷ 0 ∷ 0 ∷ 0 ∷ 4 ∷ 10 ∷ []) ∷ [])) 14 gives leaves_bytes (answer 0 0 14) (0 ∷ 2 ∷ 3 ∷ 0 ∷ 4 ∷ 10 ∷ 23 ∷ 0 ∷ 0 ∷ 0 ∷ 4 ∷ 0 ∷ 4 ∷ 10 ∷ [])
    -- pack: edition, room 1
    ∷ to_pack (nodes ((0 ∷ 0 ∷ 0 ∷ 0 ∷ 4 ∷ 10 ∷ []) ∷ (46 ∷ 0 ∷ 0 ∷ 0 ∷ 0 ∷ 4 ∷ []) ∷ (0 ∷ 0 ∷ 0 ∷ 0 ∷ 4 ∷ 10 ∷ []) ∷ [])) 15 gives leaves_bytes (answer 0 0 14) ((0 ∷ 2 ∷ 3 ∷ 0 ∷ 4 ∷ 10 ∷ 23 ∷ 0 ∷ 0 ∷ 0 ∷ 4 ∷ 0 ∷ 4 ∷ 10 ∷ []) ++ flags_from 14 1)
    -- pack: edition, room 2
    ∷ to_pack (nodes ((0 ∷ 0 ∷ 0 ∷ 0 ∷ 4 ∷ 10 ∷ []) ∷ (46 ∷ 0 ∷ 0 ∷ 0 ∷ 0 ∷ 4 ∷ []) ∷ (0 ∷ 0 ∷ 0 ∷ 0 ∷ 4 ∷ 10 ∷ []) ∷ [])) 16 gives leaves_bytes (answer 0 0 14) ((0 ∷ 2 ∷ 3 ∷ 0 ∷ 4 ∷ 10 ∷ 23 ∷ 0 ∷ 0 ∷ 0 ∷ 4 ∷ 0 ∷ 4 ∷ 10 ∷ []) ++ flags_from 14 2)
    -- pack: the last operation of the first edition
    ∷ to_pack (nodes ((40 ∷ []) ∷ [])) 4 gives leaves_bytes (answer 0 0 4) (1 ∷ 20 ∷ 0 ∷ 0 ∷ [])
    -- pack: the last operation of the first edition
    ∷ to_pack (nodes ((40 ∷ []) ∷ [])) 6 gives leaves_bytes (answer 0 0 4) ((1 ∷ 20 ∷ 0 ∷ 0 ∷ []) ++ flags_from 4 2)
    -- pack: the last operation of the first edition
    ∷ to_pack (nodes ((40 ∷ []) ∷ [])) 3 gives leaves_bytes (answer 14 0 0) (flags_from 0 3)
    ∷ []

pub packs13_agrees : Agree packs13
unfolding everything
packs13_agrees = refl
