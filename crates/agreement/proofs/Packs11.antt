-- Written by tests/model/tables.py: change that script or cases.py, never this file.
use mathlib.Core.Path.{refl}
use mathlib.Core.List.{List, [], ◌∷◌, ◌++◌}
use Rattle.guarantees.proofs.Everything.{everything}
use Rattle.agreement.specs.Cases.{words, nodes, flags_from, to_pack, leaves_bytes, answer, Case, ◌gives◌, Agree}

abbrev pub packs11 : List Case
packs11 =
    -- pack: word 11 unused, op 14
    to_pack (nodes ((16 ∷ 113 ∷ 0 ∷ 0 ∷ 120 ∷ []) ∷ (16 ∷ 113 ∷ 0 ∷ 0 ∷ 120 ∷ []) ∷ (28 ∷ 197 ∷ 200 ∷ 0 ∷ 0 ∷ 0 ∷ 0 ∷ 0 ∷ 0 ∷ 0 ∷ 0 ∷ 18446744073709551614 ∷ []) ∷ [])) 6 gives leaves_bytes (answer 3 2 0) (flags_from 0 6)
    -- pack: word 16 unused, op 3
    ∷ to_pack (nodes ((20 ∷ 141 ∷ 144 ∷ []) ∷ (6 ∷ 43 ∷ 0 ∷ 0 ∷ 0 ∷ 0 ∷ 0 ∷ 0 ∷ 0 ∷ 59 ∷ 62 ∷ 63 ∷ 66 ∷ 0 ∷ 0 ∷ 0 ∷ 18446744073709551615 ∷ []) ∷ [])) 6 gives leaves_bytes (answer 3 1 0) (flags_from 0 6)
    -- pack: out of range, op 1
    ∷ to_pack (nodes ((10 ∷ 71 ∷ 0 ∷ 0 ∷ 0 ∷ 0 ∷ 0 ∷ 0 ∷ 0 ∷ 87 ∷ 90 ∷ 91 ∷ 94 ∷ []) ∷ (10 ∷ 71 ∷ 0 ∷ 0 ∷ 0 ∷ 0 ∷ 0 ∷ 0 ∷ 0 ∷ 87 ∷ 90 ∷ 91 ∷ 94 ∷ []) ∷ (2 ∷ 0 ∷ 0 ∷ 0 ∷ 22 ∷ 23 ∷ 26 ∷ 27 ∷ 30 ∷ 18446744073709551615 ∷ 34 ∷ 35 ∷ 38 ∷ []) ∷ [])) 46 gives leaves_bytes (answer 25 2 0) (flags_from 0 46)
    -- pack: out of range, op 19
    ∷ to_pack (nodes ((8 ∷ 57 ∷ 0 ∷ 0 ∷ 0 ∷ 0 ∷ 0 ∷ 0 ∷ 0 ∷ 73 ∷ 76 ∷ 77 ∷ 80 ∷ []) ∷ (38 ∷ 267 ∷ 0 ∷ 0 ∷ 0 ∷ 275 ∷ 0 ∷ 0 ∷ 0 ∷ 283 ∷ 286 ∷ 34359738368 ∷ 290 ∷ []) ∷ [])) 46 gives leaves_bytes (answer 25 1 0) (flags_from 0 46)
    -- pack: word 5 unused, op 17
    ∷ to_pack (nodes ((4 ∷ 29 ∷ 0 ∷ 0 ∷ 0 ∷ 0 ∷ 0 ∷ 0 ∷ 0 ∷ 45 ∷ 48 ∷ 49 ∷ 52 ∷ []) ∷ (4 ∷ 29 ∷ 0 ∷ 0 ∷ 0 ∷ 0 ∷ 0 ∷ 0 ∷ 0 ∷ 45 ∷ 48 ∷ 49 ∷ 52 ∷ []) ∷ (34 ∷ 239 ∷ 242 ∷ 0 ∷ 0 ∷ 68719476736 ∷ []) ∷ [])) 6 gives leaves_bytes (answer 3 2 0) (flags_from 0 6)
    -- pack: 1 before 2
    ∷ to_pack (nodes ((48 ∷ []) ∷ []) ++ words (0 ∷ [])) 6 gives leaves_bytes (answer 1 0 0) (flags_from 0 6)
    -- pack: no words, no room
    ∷ to_pack [] 0 gives leaves_bytes (answer 1 0 0) []
    -- pack: word 13 unused, op 9
    ∷ to_pack (nodes ((20 ∷ 141 ∷ 144 ∷ []) ∷ (18 ∷ 127 ∷ 130 ∷ 0 ∷ 0 ∷ 0 ∷ 0 ∷ 0 ∷ 0 ∷ 0 ∷ 0 ∷ 0 ∷ 0 ∷ 68719476736 ∷ []) ∷ [])) 6 gives leaves_bytes (answer 3 1 0) (flags_from 0 6)
    -- pack: room 0, op 23
    ∷ to_pack (nodes ((46 ∷ 323 ∷ 326 ∷ 327 ∷ 0 ∷ 331 ∷ []) ∷ [])) 12 gives leaves_bytes (answer 0 0 12) (0 ∷ 2 ∷ 1 ∷ 23 ∷ 195 ∷ 2 ∷ 198 ∷ 2 ∷ 199 ∷ 2 ∷ 203 ∷ 2 ∷ [])
    -- pack: word 2 unused, op 3
    ∷ to_pack (nodes ((6 ∷ 43 ∷ 18446744073709551615 ∷ 0 ∷ 0 ∷ 0 ∷ 0 ∷ 0 ∷ 0 ∷ 59 ∷ 62 ∷ 63 ∷ 66 ∷ []) ∷ [])) 6 gives leaves_bytes (answer 3 0 0) (flags_from 0 6)
    -- pack: word 6 unused, op 7
    ∷ to_pack (nodes ((8 ∷ 57 ∷ 0 ∷ 0 ∷ 0 ∷ 0 ∷ 0 ∷ 0 ∷ 0 ∷ 73 ∷ 76 ∷ 77 ∷ 80 ∷ []) ∷ (14 ∷ 99 ∷ 0 ∷ 0 ∷ 0 ∷ 0 ∷ 1 ∷ 0 ∷ 0 ∷ 115 ∷ 118 ∷ 119 ∷ 122 ∷ 123 ∷ 126 ∷ 127 ∷ 130 ∷ []) ∷ [])) 6 gives leaves_bytes (answer 3 1 0) (flags_from 0 6)
    -- pack: 25 before 14
    ∷ to_pack (nodes ((2 ∷ 0 ∷ 0 ∷ 0 ∷ 22 ∷ 23 ∷ 26 ∷ 27 ∷ 30 ∷ 31 ∷ 34 ∷ 35 ∷ 18446744073709551615 ∷ []) ∷ [])) 0 gives leaves_bytes (answer 25 0 0) []
    -- pack: word 5 unused, op 12
    ∷ to_pack (nodes ((4 ∷ 29 ∷ 0 ∷ 0 ∷ 0 ∷ 0 ∷ 0 ∷ 0 ∷ 0 ∷ 45 ∷ 48 ∷ 49 ∷ 52 ∷ []) ∷ (4 ∷ 29 ∷ 0 ∷ 0 ∷ 0 ∷ 0 ∷ 0 ∷ 0 ∷ 0 ∷ 45 ∷ 48 ∷ 49 ∷ 52 ∷ []) ∷ (24 ∷ 169 ∷ 172 ∷ 0 ∷ 0 ∷ 68719476736 ∷ []) ∷ [])) 6 gives leaves_bytes (answer 3 2 0) (flags_from 0 6)
    -- pack: 1 before 2
    ∷ to_pack (nodes ((1 ∷ 0 ∷ 0 ∷ 0 ∷ 2 ∷ 18446744073709551614 ∷ []) ∷ []) ++ words (0 ∷ [])) 6 gives leaves_bytes (answer 1 0 0) (flags_from 0 6)
    -- pack: room -1, op 15
    ∷ to_pack (nodes ((30 ∷ 211 ∷ 214 ∷ []) ∷ [])) 5 gives leaves_bytes (answer 14 0 0) (flags_from 0 5)
    -- pack: 3 before 14
    ∷ to_pack (nodes ((18 ∷ 127 ∷ 130 ∷ 18446744073709551614 ∷ []) ∷ [])) 0 gives leaves_bytes (answer 3 0 0) []
    -- pack: word 16 unused, op 12
    ∷ to_pack (nodes ((26 ∷ 183 ∷ 186 ∷ []) ∷ (24 ∷ 169 ∷ 172 ∷ 0 ∷ 0 ∷ 0 ∷ 0 ∷ 0 ∷ 0 ∷ 0 ∷ 0 ∷ 0 ∷ 0 ∷ 0 ∷ 0 ∷ 0 ∷ 2 ∷ []) ∷ [])) 6 gives leaves_bytes (answer 3 1 0) (flags_from 0 6)
    -- pack: random
    ∷ to_pack (nodes ((28 ∷ 2000 ∷ 2431918049 ∷ []) ∷ (24 ∷ 81 ∷ 2 ∷ []) ∷ (4 ∷ 4108531 ∷ 0 ∷ 0 ∷ 0 ∷ 0 ∷ 0 ∷ 0 ∷ 0 ∷ 9903922929 ∷ 13 ∷ 131 ∷ 1229641 ∷ []) ∷ (8 ∷ 18354881 ∷ 0 ∷ 0 ∷ 0 ∷ 0 ∷ 0 ∷ 0 ∷ 0 ∷ 192120346 ∷ 20297901 ∷ 427618 ∷ 6 ∷ []) ∷ [])) 45 gives leaves_bytes (answer 0 0 45) (4 ∷ 14 ∷ 208 ∷ 15 ∷ 225 ∷ 191 ∷ 208 ∷ 135 ∷ 9 ∷ 12 ∷ 81 ∷ 2 ∷ 2 ∷ 243 ∷ 225 ∷ 250 ∷ 1 ∷ 241 ∷ 189 ∷ 199 ∷ 242 ∷ 36 ∷ 13 ∷ 131 ∷ 1 ∷ 201 ∷ 134 ∷ 75 ∷ 4 ∷ 193 ∷ 165 ∷ 224 ∷ 8 ∷ 154 ∷ 140 ∷ 206 ∷ 91 ∷ 173 ∷ 241 ∷ 214 ∷ 9 ∷ 226 ∷ 140 ∷ 26 ∷ 6 ∷ [])
    -- pack: random
    ∷ to_pack (nodes ((40 ∷ 5324979 ∷ 0 ∷ 0 ∷ 0 ∷ 0 ∷ 46925 ∷ []) ∷ (22 ∷ 0 ∷ 63 ∷ []) ∷ (6 ∷ 125599732 ∷ 0 ∷ 0 ∷ 0 ∷ 0 ∷ 0 ∷ 0 ∷ 0 ∷ 3549231477 ∷ 24301 ∷ 1896597 ∷ 2 ∷ []) ∷ [])) 28 gives leaves_bytes (answer 14 0 0) (flags_from 0 28)
    -- pack: out of range, op 22
    ∷ to_pack (nodes ((4 ∷ 29 ∷ 0 ∷ 0 ∷ 0 ∷ 0 ∷ 0 ∷ 0 ∷ 0 ∷ 45 ∷ 48 ∷ 49 ∷ 52 ∷ []) ∷ (4 ∷ 29 ∷ 0 ∷ 0 ∷ 0 ∷ 0 ∷ 0 ∷ 0 ∷ 0 ∷ 45 ∷ 48 ∷ 49 ∷ 52 ∷ []) ∷ (44 ∷ 18446744073709551615 ∷ []) ∷ [])) 46 gives leaves_bytes (answer 25 2 0) (flags_from 0 46)
    -- pack: 1 before 25
    ∷ to_pack (nodes ((36 ∷ 253 ∷ 256 ∷ 18446744073709551614 ∷ []) ∷ []) ++ words (0 ∷ [])) 6 gives leaves_bytes (answer 1 0 0) (flags_from 0 6)
    -- pack: word 11 unused, op 11
    ∷ to_pack (nodes ((16 ∷ 113 ∷ 0 ∷ 0 ∷ 120 ∷ []) ∷ (16 ∷ 113 ∷ 0 ∷ 0 ∷ 120 ∷ []) ∷ (22 ∷ 155 ∷ 158 ∷ 0 ∷ 0 ∷ 0 ∷ 0 ∷ 0 ∷ 0 ∷ 0 ∷ 0 ∷ 68719476736 ∷ []) ∷ [])) 6 gives leaves_bytes (answer 3 2 0) (flags_from 0 6)
    -- pack: out of range, op 5
    ∷ to_pack (nodes ((10 ∷ 71 ∷ 0 ∷ 0 ∷ 0 ∷ 0 ∷ 0 ∷ 0 ∷ 0 ∷ 87 ∷ 90 ∷ 18446744073709551614 ∷ 94 ∷ []) ∷ [])) 46 gives leaves_bytes (answer 25 0 0) (flags_from 0 46)
    -- pack: room 4, op 16
    ∷ to_pack (nodes ((32 ∷ 225 ∷ 228 ∷ []) ∷ [])) 10 gives leaves_bytes (answer 0 0 6) ((1 ∷ 16 ∷ 225 ∷ 1 ∷ 228 ∷ 1 ∷ []) ++ flags_from 6 4)
    -- pack: room 4, op 10
    ∷ to_pack (nodes ((20 ∷ 141 ∷ 144 ∷ []) ∷ [])) 10 gives leaves_bytes (answer 0 0 6) ((1 ∷ 10 ∷ 141 ∷ 1 ∷ 144 ∷ 1 ∷ []) ++ flags_from 6 4)
    -- pack: word 8 unused, op 4
    ∷ to_pack (nodes ((8 ∷ 57 ∷ 0 ∷ 0 ∷ 0 ∷ 0 ∷ 0 ∷ 0 ∷ 2 ∷ 73 ∷ 76 ∷ 77 ∷ 80 ∷ []) ∷ [])) 6 gives leaves_bytes (answer 3 0 0) (flags_from 0 6)
    -- pack: word 8 unused, op 17
    ∷ to_pack (nodes ((10 ∷ 71 ∷ 0 ∷ 0 ∷ 0 ∷ 0 ∷ 0 ∷ 0 ∷ 0 ∷ 87 ∷ 90 ∷ 91 ∷ 94 ∷ []) ∷ (10 ∷ 71 ∷ 0 ∷ 0 ∷ 0 ∷ 0 ∷ 0 ∷ 0 ∷ 0 ∷ 87 ∷ 90 ∷ 91 ∷ 94 ∷ []) ∷ (34 ∷ 239 ∷ 242 ∷ 0 ∷ 0 ∷ 0 ∷ 0 ∷ 0 ∷ 18446744073709551614 ∷ []) ∷ [])) 6 gives leaves_bytes (answer 3 2 0) (flags_from 0 6)
    -- pack: word 12 unused, op 10
    ∷ to_pack (nodes ((20 ∷ 141 ∷ 144 ∷ 0 ∷ 0 ∷ 0 ∷ 0 ∷ 0 ∷ 0 ∷ 0 ∷ 0 ∷ 0 ∷ 68719476736 ∷ []) ∷ [])) 6 gives leaves_bytes (answer 3 0 0) (flags_from 0 6)
    -- pack: word 9 unused, op 11
    ∷ to_pack (nodes ((22 ∷ 155 ∷ 158 ∷ 0 ∷ 0 ∷ 0 ∷ 0 ∷ 0 ∷ 0 ∷ 18446744073709551614 ∷ []) ∷ [])) 6 gives leaves_bytes (answer 3 0 0) (flags_from 0 6)
    -- pack: word 14 unused, op 3
    ∷ to_pack (nodes ((16 ∷ 113 ∷ 0 ∷ 0 ∷ 120 ∷ []) ∷ (16 ∷ 113 ∷ 0 ∷ 0 ∷ 120 ∷ []) ∷ (6 ∷ 43 ∷ 0 ∷ 0 ∷ 0 ∷ 0 ∷ 0 ∷ 0 ∷ 0 ∷ 59 ∷ 62 ∷ 63 ∷ 66 ∷ 0 ∷ 1 ∷ []) ∷ [])) 6 gives leaves_bytes (answer 3 2 0) (flags_from 0 6)
    -- pack: word 9 unused, op 22
    ∷ to_pack (nodes ((14 ∷ 99 ∷ 0 ∷ 0 ∷ 0 ∷ 0 ∷ 0 ∷ 0 ∷ 0 ∷ 115 ∷ 118 ∷ 119 ∷ 122 ∷ 123 ∷ 126 ∷ 127 ∷ 130 ∷ []) ∷ (44 ∷ 309 ∷ 0 ∷ 0 ∷ 0 ∷ 0 ∷ 0 ∷ 0 ∷ 0 ∷ 68719476736 ∷ []) ∷ [])) 6 gives leaves_bytes (answer 3 1 0) (flags_from 0 6)
    -- pack: 1 before 25
    ∷ to_pack (nodes ((0 ∷ 0 ∷ 0 ∷ 0 ∷ 34359738369 ∷ 9 ∷ []) ∷ []) ++ words (0 ∷ [])) 6 gives leaves_bytes (answer 1 0 0) (flags_from 0 6)
    -- pack: word 1 unused, op 1
    ∷ to_pack (nodes ((2 ∷ 1 ∷ 0 ∷ 0 ∷ 22 ∷ 23 ∷ 26 ∷ 27 ∷ 30 ∷ 31 ∷ 34 ∷ 35 ∷ 38 ∷ []) ∷ [])) 6 gives leaves_bytes (answer 3 0 0) (flags_from 0 6)
    -- pack: word 14 unused, op 5
    ∷ to_pack (nodes ((16 ∷ 113 ∷ 0 ∷ 0 ∷ 120 ∷ []) ∷ (16 ∷ 113 ∷ 0 ∷ 0 ∷ 120 ∷ []) ∷ (10 ∷ 71 ∷ 0 ∷ 0 ∷ 0 ∷ 0 ∷ 0 ∷ 0 ∷ 0 ∷ 87 ∷ 90 ∷ 91 ∷ 94 ∷ 0 ∷ 18446744073709551615 ∷ []) ∷ [])) 6 gives leaves_bytes (answer 3 2 0) (flags_from 0 6)
    -- pack: word 9 unused, op 9
    ∷ to_pack (nodes ((18 ∷ 127 ∷ 130 ∷ 0 ∷ 0 ∷ 0 ∷ 0 ∷ 0 ∷ 0 ∷ 2 ∷ []) ∷ [])) 6 gives leaves_bytes (answer 3 0 0) (flags_from 0 6)
    -- pack: word 7 unused, op 23
    ∷ to_pack (nodes ((4 ∷ 29 ∷ 0 ∷ 0 ∷ 0 ∷ 0 ∷ 0 ∷ 0 ∷ 0 ∷ 45 ∷ 48 ∷ 49 ∷ 52 ∷ []) ∷ (4 ∷ 29 ∷ 0 ∷ 0 ∷ 0 ∷ 0 ∷ 0 ∷ 0 ∷ 0 ∷ 45 ∷ 48 ∷ 49 ∷ 52 ∷ []) ∷ (46 ∷ 323 ∷ 326 ∷ 327 ∷ 0 ∷ 331 ∷ 0 ∷ 2 ∷ []) ∷ [])) 6 gives leaves_bytes (answer 3 2 0) (flags_from 0 6)
    -- pack: 1 before 14
    ∷ to_pack (words (10 ∷ [])) 0 gives leaves_bytes (answer 1 0 0) []
    -- pack: word 8 unused, op 8
    ∷ to_pack (nodes ((10 ∷ 71 ∷ 0 ∷ 0 ∷ 0 ∷ 0 ∷ 0 ∷ 0 ∷ 0 ∷ 87 ∷ 90 ∷ 91 ∷ 94 ∷ []) ∷ (10 ∷ 71 ∷ 0 ∷ 0 ∷ 0 ∷ 0 ∷ 0 ∷ 0 ∷ 0 ∷ 87 ∷ 90 ∷ 91 ∷ 94 ∷ []) ∷ (16 ∷ 113 ∷ 0 ∷ 0 ∷ 120 ∷ 0 ∷ 0 ∷ 0 ∷ 18446744073709551615 ∷ []) ∷ [])) 6 gives leaves_bytes (answer 3 2 0) (flags_from 0 6)
    -- pack: word 9 unused, op 12
    ∷ to_pack (nodes ((24 ∷ 169 ∷ 172 ∷ 0 ∷ 0 ∷ 0 ∷ 0 ∷ 0 ∷ 0 ∷ 18446744073709551615 ∷ []) ∷ [])) 6 gives leaves_bytes (answer 3 0 0) (flags_from 0 6)
    -- pack: word 10 unused, op 8
    ∷ to_pack (nodes ((14 ∷ 99 ∷ 0 ∷ 0 ∷ 0 ∷ 0 ∷ 0 ∷ 0 ∷ 0 ∷ 115 ∷ 118 ∷ 119 ∷ 122 ∷ 123 ∷ 126 ∷ 127 ∷ 130 ∷ []) ∷ (16 ∷ 113 ∷ 0 ∷ 0 ∷ 120 ∷ 0 ∷ 0 ∷ 0 ∷ 0 ∷ 0 ∷ 2 ∷ []) ∷ [])) 6 gives leaves_bytes (answer 3 1 0) (flags_from 0 6)
    -- pack: random
    ∷ to_pack (nodes ((32 ∷ 2801822 ∷ 80047 ∷ []) ∷ (12 ∷ 5 ∷ 0 ∷ 0 ∷ 0 ∷ 0 ∷ 0 ∷ 0 ∷ 0 ∷ 50 ∷ 34 ∷ 213 ∷ 239638 ∷ 94 ∷ 3 ∷ 41 ∷ 11 ∷ []) ∷ (44 ∷ 876700951 ∷ []) ∷ (8 ∷ 1857378 ∷ 0 ∷ 0 ∷ 0 ∷ 0 ∷ 0 ∷ 0 ∷ 0 ∷ 28065 ∷ 475471 ∷ 0 ∷ 17011532 ∷ []) ∷ (22 ∷ 32481 ∷ 1206803847 ∷ []) ∷ [])) 54 gives leaves_bytes (answer 0 0 54) (0 ∷ 2 ∷ 5 ∷ 16 ∷ 158 ∷ 129 ∷ 171 ∷ 1 ∷ 175 ∷ 241 ∷ 4 ∷ 6 ∷ 5 ∷ 50 ∷ 34 ∷ 213 ∷ 1 ∷ 150 ∷ 208 ∷ 14 ∷ 94 ∷ 3 ∷ 41 ∷ 11 ∷ 22 ∷ 151 ∷ 202 ∷ 133 ∷ 162 ∷ 3 ∷ 4 ∷ 226 ∷ 174 ∷ 113 ∷ 161 ∷ 219 ∷ 1 ∷ 207 ∷ 130 ∷ 29 ∷ 0 ∷ 204 ∷ 166 ∷ 142 ∷ 8 ∷ 11 ∷ 225 ∷ 253 ∷ 1 ∷ 135 ∷ 187 ∷ 185 ∷ 191 ∷ 4 ∷ [])
    -- pack: room 0, op 11
    ∷ to_pack (nodes ((22 ∷ 155 ∷ 158 ∷ []) ∷ [])) 6 gives leaves_bytes (answer 0 0 6) (1 ∷ 11 ∷ 155 ∷ 1 ∷ 158 ∷ 1 ∷ [])
    -- pack: word 6 unused, op 0
    ∷ to_pack (nodes ((0 ∷ 0 ∷ 0 ∷ 0 ∷ 8 ∷ 9 ∷ 18446744073709551615 ∷ []) ∷ [])) 6 gives leaves_bytes (answer 3 0 0) (flags_from 0 6)
    -- pack: rule 6 is not asked
    ∷ to_pack (nodes ((2 ∷ 0 ∷ 0 ∷ 0 ∷ 6 ∷ 0 ∷ 2 ∷ 2 ∷ 2 ∷ 4 ∷ 6 ∷ []) ∷ (2 ∷ 0 ∷ 0 ∷ 0 ∷ 6 ∷ 2 ∷ 2 ∷ 2 ∷ 2 ∷ 4 ∷ 6 ∷ []) ∷ (34 ∷ 0 ∷ 2 ∷ []) ∷ [])) 26 gives leaves_bytes (answer 0 0 24) ((3 ∷ 1 ∷ 6 ∷ 0 ∷ 2 ∷ 2 ∷ 2 ∷ 4 ∷ 6 ∷ 0 ∷ 0 ∷ 1 ∷ 6 ∷ 2 ∷ 2 ∷ 2 ∷ 2 ∷ 4 ∷ 6 ∷ 0 ∷ 0 ∷ 17 ∷ 0 ∷ 2 ∷ []) ++ flags_from 24 2)
    -- pack: word 15 unused, op 5
    ∷ to_pack (nodes ((10 ∷ 71 ∷ 0 ∷ 0 ∷ 0 ∷ 0 ∷ 0 ∷ 0 ∷ 0 ∷ 87 ∷ 90 ∷ 91 ∷ 94 ∷ 0 ∷ 0 ∷ 68719476736 ∷ []) ∷ [])) 6 gives leaves_bytes (answer 3 0 0) (flags_from 0 6)
    -- pack: ends, op 20
    ∷ to_pack (nodes ((40 ∷ 0 ∷ 0 ∷ 0 ∷ 0 ∷ 0 ∷ 2 ∷ []) ∷ (40 ∷ 2 ∷ 0 ∷ 0 ∷ 0 ∷ 0 ∷ 1 ∷ []) ∷ (40 ∷ 1 ∷ 0 ∷ 0 ∷ 0 ∷ 0 ∷ 126 ∷ []) ∷ (40 ∷ 126 ∷ 0 ∷ 0 ∷ 0 ∷ 0 ∷ 128 ∷ []) ∷ (40 ∷ 128 ∷ 0 ∷ 0 ∷ 0 ∷ 0 ∷ 127 ∷ []) ∷ (40 ∷ 127 ∷ 0 ∷ 0 ∷ 0 ∷ 0 ∷ 129 ∷ []) ∷ (40 ∷ 129 ∷ 0 ∷ 0 ∷ 0 ∷ 0 ∷ 16382 ∷ []) ∷ (40 ∷ 16382 ∷ 0 ∷ 0 ∷ 0 ∷ 0 ∷ 16384 ∷ []) ∷ (40 ∷ 16384 ∷ 0 ∷ 0 ∷ 0 ∷ 0 ∷ 16383 ∷ []) ∷ (40 ∷ 16383 ∷ 0 ∷ 0 ∷ 0 ∷ 0 ∷ 16385 ∷ []) ∷ (40 ∷ 16385 ∷ 0 ∷ 0 ∷ 0 ∷ 0 ∷ 2097150 ∷ []) ∷ (40 ∷ 2097150 ∷ 0 ∷ 0 ∷ 0 ∷ 0 ∷ 2097152 ∷ []) ∷ (40 ∷ 2097152 ∷ 0 ∷ 0 ∷ 0 ∷ 0 ∷ 2097151 ∷ []) ∷ (40 ∷ 2097151 ∷ 0 ∷ 0 ∷ 0 ∷ 0 ∷ 2097153 ∷ []) ∷ (40 ∷ 2097153 ∷ 0 ∷ 0 ∷ 0 ∷ 0 ∷ 268435454 ∷ []) ∷ (40 ∷ 268435454 ∷ 0 ∷ 0 ∷ 0 ∷ 0 ∷ 268435456 ∷ []) ∷ (40 ∷ 268435456 ∷ 0 ∷ 0 ∷ 0 ∷ 0 ∷ 268435455 ∷ []) ∷ (40 ∷ 268435455 ∷ 0 ∷ 0 ∷ 0 ∷ 0 ∷ 268435457 ∷ []) ∷ (40 ∷ 268435457 ∷ 0 ∷ 0 ∷ 0 ∷ 0 ∷ 34359738367 ∷ []) ∷ (40 ∷ 34359738367 ∷ 0 ∷ 0 ∷ 0 ∷ 0 ∷ 34359738366 ∷ []) ∷ (40 ∷ 34359738366 ∷ []) ∷ [])) 146 gives leaves_bytes (answer 0 0 144) ((21 ∷ 20 ∷ 0 ∷ 2 ∷ 20 ∷ 2 ∷ 1 ∷ 20 ∷ 1 ∷ 126 ∷ 20 ∷ 126 ∷ 128 ∷ 1 ∷ 20 ∷ 128 ∷ 1 ∷ 127 ∷ 20 ∷ 127 ∷ 129 ∷ 1 ∷ 20 ∷ 129 ∷ 1 ∷ 254 ∷ 127 ∷ 20 ∷ 254 ∷ 127 ∷ 128 ∷ 128 ∷ 1 ∷ 20 ∷ 128 ∷ 128 ∷ 1 ∷ 255 ∷ 127 ∷ 20 ∷ 255 ∷ 127 ∷ 129 ∷ 128 ∷ 1 ∷ 20 ∷ 129 ∷ 128 ∷ 1 ∷ 254 ∷ 255 ∷ 127 ∷ 20 ∷ 254 ∷ 255 ∷ 127 ∷ 128 ∷ 128 ∷ 128 ∷ 1 ∷ 20 ∷ 128 ∷ 128 ∷ 128 ∷ 1 ∷ 255 ∷ 255 ∷ 127 ∷ 20 ∷ 255 ∷ 255 ∷ 127 ∷ 129 ∷ 128 ∷ 128 ∷ 1 ∷ 20 ∷ 129 ∷ 128 ∷ 128 ∷ 1 ∷ 254 ∷ 255 ∷ 255 ∷ 127 ∷ 20 ∷ 254 ∷ 255 ∷ 255 ∷ 127 ∷ 128 ∷ 128 ∷ 128 ∷ 128 ∷ 1 ∷ 20 ∷ 128 ∷ 128 ∷ 128 ∷ 128 ∷ 1 ∷ 255 ∷ 255 ∷ 255 ∷ 127 ∷ 20 ∷ 255 ∷ 255 ∷ 255 ∷ 127 ∷ 129 ∷ 128 ∷ 128 ∷ 128 ∷ 1 ∷ 20 ∷ 129 ∷ 128 ∷ 128 ∷ 128 ∷ 1 ∷ 255 ∷ 255 ∷ 255 ∷ 255 ∷ 127 ∷ 20 ∷ 255 ∷ 255 ∷ 255 ∷ 255 ∷ 127 ∷ 254 ∷ 255 ∷ 255 ∷ 255 ∷ 127 ∷ 20 ∷ 254 ∷ 255 ∷ 255 ∷ 255 ∷ 127 ∷ 0 ∷ []) ++ flags_from 144 2)
    -- pack: operation 24
    ∷ to_pack (nodes ((48 ∷ []) ∷ [])) 46 gives leaves_bytes (answer 2 0 0) (flags_from 0 46)
    -- pack: word 11 unused, op 0
    ∷ to_pack (nodes ((16 ∷ 113 ∷ 0 ∷ 0 ∷ 120 ∷ []) ∷ (16 ∷ 113 ∷ 0 ∷ 0 ∷ 120 ∷ []) ∷ (0 ∷ 0 ∷ 0 ∷ 0 ∷ 8 ∷ 9 ∷ 0 ∷ 0 ∷ 0 ∷ 0 ∷ 0 ∷ 18446744073709551615 ∷ []) ∷ [])) 6 gives leaves_bytes (answer 3 2 0) (flags_from 0 6)
    -- pack: rule 4 is not asked
    ∷ to_pack (nodes ((2 ∷ 0 ∷ 0 ∷ 0 ∷ 6 ∷ 0 ∷ 2 ∷ 2 ∷ 2 ∷ 4 ∷ 6 ∷ []) ∷ (38 ∷ 2 ∷ 0 ∷ 0 ∷ 0 ∷ 0 ∷ 0 ∷ 0 ∷ 0 ∷ 2 ∷ []) ∷ [])) 20 gives leaves_bytes (answer 0 0 18) ((2 ∷ 1 ∷ 6 ∷ 0 ∷ 2 ∷ 2 ∷ 2 ∷ 4 ∷ 6 ∷ 0 ∷ 0 ∷ 19 ∷ 2 ∷ 0 ∷ 2 ∷ 0 ∷ 0 ∷ 0 ∷ []) ++ flags_from 18 2)
    -- pack: word 10 unused, op 14
    ∷ to_pack (nodes ((14 ∷ 99 ∷ 0 ∷ 0 ∷ 0 ∷ 0 ∷ 0 ∷ 0 ∷ 0 ∷ 115 ∷ 118 ∷ 119 ∷ 122 ∷ 123 ∷ 126 ∷ 127 ∷ 130 ∷ []) ∷ (28 ∷ 197 ∷ 200 ∷ 0 ∷ 0 ∷ 0 ∷ 0 ∷ 0 ∷ 0 ∷ 0 ∷ 1 ∷ []) ∷ [])) 6 gives leaves_bytes (answer 3 1 0) (flags_from 0 6)
    ∷ []

pub packs11_agrees : Agree packs11
unfolding everything
packs11_agrees = refl
