-- Written by tests/model/tables.py: change that script or cases.py, never this file.
use mathlib.Core.Path.{refl}
use mathlib.Core.List.{List, [], ◌∷◌, ◌++◌}
use Rattle.guarantees.proofs.Everything.{everything}
use Rattle.agreement.specs.Cases.{words, nodes, flags_from, to_pack, leaves_bytes, answer, Case, ◌gives◌, Agree}

abbrev pub packs10 : List Case
packs10 =
    -- pack: ends, op 15
    to_pack (nodes ((30 ∷ 0 ∷ 2 ∷ []) ∷ (30 ∷ 2 ∷ 1 ∷ []) ∷ (30 ∷ 1 ∷ 126 ∷ []) ∷ (30 ∷ 126 ∷ 128 ∷ []) ∷ (30 ∷ 128 ∷ 127 ∷ []) ∷ (30 ∷ 127 ∷ 129 ∷ []) ∷ (30 ∷ 129 ∷ 16382 ∷ []) ∷ (30 ∷ 16382 ∷ 16384 ∷ []) ∷ (30 ∷ 16384 ∷ 16383 ∷ []) ∷ (30 ∷ 16383 ∷ 16385 ∷ []) ∷ (30 ∷ 16385 ∷ 2097150 ∷ []) ∷ (30 ∷ 2097150 ∷ 2097152 ∷ []) ∷ (30 ∷ 2097152 ∷ 2097151 ∷ []) ∷ (30 ∷ 2097151 ∷ 2097153 ∷ []) ∷ (30 ∷ 2097153 ∷ 268435454 ∷ []) ∷ (30 ∷ 268435454 ∷ 268435456 ∷ []) ∷ (30 ∷ 268435456 ∷ 268435455 ∷ []) ∷ (30 ∷ 268435455 ∷ 268435457 ∷ []) ∷ (30 ∷ 268435457 ∷ 34359738367 ∷ []) ∷ (30 ∷ 34359738367 ∷ 34359738366 ∷ []) ∷ (30 ∷ 34359738366 ∷ []) ∷ [])) 144 gives leaves_bytes (answer 0 0 144) (21 ∷ 15 ∷ 0 ∷ 2 ∷ 15 ∷ 2 ∷ 1 ∷ 15 ∷ 1 ∷ 126 ∷ 15 ∷ 126 ∷ 128 ∷ 1 ∷ 15 ∷ 128 ∷ 1 ∷ 127 ∷ 15 ∷ 127 ∷ 129 ∷ 1 ∷ 15 ∷ 129 ∷ 1 ∷ 254 ∷ 127 ∷ 15 ∷ 254 ∷ 127 ∷ 128 ∷ 128 ∷ 1 ∷ 15 ∷ 128 ∷ 128 ∷ 1 ∷ 255 ∷ 127 ∷ 15 ∷ 255 ∷ 127 ∷ 129 ∷ 128 ∷ 1 ∷ 15 ∷ 129 ∷ 128 ∷ 1 ∷ 254 ∷ 255 ∷ 127 ∷ 15 ∷ 254 ∷ 255 ∷ 127 ∷ 128 ∷ 128 ∷ 128 ∷ 1 ∷ 15 ∷ 128 ∷ 128 ∷ 128 ∷ 1 ∷ 255 ∷ 255 ∷ 127 ∷ 15 ∷ 255 ∷ 255 ∷ 127 ∷ 129 ∷ 128 ∷ 128 ∷ 1 ∷ 15 ∷ 129 ∷ 128 ∷ 128 ∷ 1 ∷ 254 ∷ 255 ∷ 255 ∷ 127 ∷ 15 ∷ 254 ∷ 255 ∷ 255 ∷ 127 ∷ 128 ∷ 128 ∷ 128 ∷ 128 ∷ 1 ∷ 15 ∷ 128 ∷ 128 ∷ 128 ∷ 128 ∷ 1 ∷ 255 ∷ 255 ∷ 255 ∷ 127 ∷ 15 ∷ 255 ∷ 255 ∷ 255 ∷ 127 ∷ 129 ∷ 128 ∷ 128 ∷ 128 ∷ 1 ∷ 15 ∷ 129 ∷ 128 ∷ 128 ∷ 128 ∷ 1 ∷ 255 ∷ 255 ∷ 255 ∷ 255 ∷ 127 ∷ 15 ∷ 255 ∷ 255 ∷ 255 ∷ 255 ∷ 127 ∷ 254 ∷ 255 ∷ 255 ∷ 255 ∷ 127 ∷ 15 ∷ 254 ∷ 255 ∷ 255 ∷ 255 ∷ 127 ∷ 0 ∷ [])
    -- pack: word 4 unused, op 19
    ∷ to_pack (nodes ((4 ∷ 29 ∷ 0 ∷ 0 ∷ 0 ∷ 0 ∷ 0 ∷ 0 ∷ 0 ∷ 45 ∷ 48 ∷ 49 ∷ 52 ∷ []) ∷ (4 ∷ 29 ∷ 0 ∷ 0 ∷ 0 ∷ 0 ∷ 0 ∷ 0 ∷ 0 ∷ 45 ∷ 48 ∷ 49 ∷ 52 ∷ []) ∷ (38 ∷ 267 ∷ 0 ∷ 0 ∷ 1 ∷ 275 ∷ 0 ∷ 0 ∷ 0 ∷ 283 ∷ 286 ∷ 287 ∷ 290 ∷ []) ∷ [])) 6 gives leaves_bytes (answer 3 2 0) (flags_from 0 6)
    -- pack: word 6 unused, op 18
    ∷ to_pack (nodes ((4 ∷ 29 ∷ 0 ∷ 0 ∷ 0 ∷ 0 ∷ 0 ∷ 0 ∷ 0 ∷ 45 ∷ 48 ∷ 49 ∷ 52 ∷ []) ∷ (4 ∷ 29 ∷ 0 ∷ 0 ∷ 0 ∷ 0 ∷ 0 ∷ 0 ∷ 0 ∷ 45 ∷ 48 ∷ 49 ∷ 52 ∷ []) ∷ (36 ∷ 253 ∷ 256 ∷ 257 ∷ 0 ∷ 0 ∷ 2 ∷ []) ∷ [])) 6 gives leaves_bytes (answer 3 2 0) (flags_from 0 6)
    -- pack: word 2 unused, op 2
    ∷ to_pack (nodes ((4 ∷ 29 ∷ 18446744073709551614 ∷ 0 ∷ 0 ∷ 0 ∷ 0 ∷ 0 ∷ 0 ∷ 45 ∷ 48 ∷ 49 ∷ 52 ∷ []) ∷ [])) 6 gives leaves_bytes (answer 3 0 0) (flags_from 0 6)
    -- pack: word 5 unused, op 13
    ∷ to_pack (nodes ((4 ∷ 29 ∷ 0 ∷ 0 ∷ 0 ∷ 0 ∷ 0 ∷ 0 ∷ 0 ∷ 45 ∷ 48 ∷ 49 ∷ 52 ∷ []) ∷ (4 ∷ 29 ∷ 0 ∷ 0 ∷ 0 ∷ 0 ∷ 0 ∷ 0 ∷ 0 ∷ 45 ∷ 48 ∷ 49 ∷ 52 ∷ []) ∷ (26 ∷ 183 ∷ 186 ∷ 0 ∷ 0 ∷ 2 ∷ []) ∷ [])) 6 gives leaves_bytes (answer 3 2 0) (flags_from 0 6)
    -- pack: out of range, op 10
    ∷ to_pack (nodes ((20 ∷ 34359738369 ∷ 144 ∷ []) ∷ [])) 46 gives leaves_bytes (answer 25 0 0) (flags_from 0 46)
    -- pack: room 0, op 17
    ∷ to_pack (nodes ((34 ∷ 239 ∷ 242 ∷ []) ∷ [])) 6 gives leaves_bytes (answer 0 0 6) (1 ∷ 17 ∷ 239 ∷ 1 ∷ 242 ∷ 1 ∷ [])
    -- pack: rule 8 is not asked
    ∷ to_pack (nodes ((2 ∷ 0 ∷ 0 ∷ 0 ∷ 6 ∷ 0 ∷ 2 ∷ 2 ∷ 2 ∷ 4 ∷ 6 ∷ []) ∷ (8 ∷ 0 ∷ 0 ∷ 0 ∷ 0 ∷ 0 ∷ 0 ∷ 0 ∷ 0 ∷ 2097152 ∷ 2097152 ∷ 2097152 ∷ 2097152 ∷ []) ∷ [])) 31 gives leaves_bytes (answer 0 0 29) ((2 ∷ 1 ∷ 6 ∷ 0 ∷ 2 ∷ 2 ∷ 2 ∷ 4 ∷ 6 ∷ 0 ∷ 0 ∷ 4 ∷ 0 ∷ 128 ∷ 128 ∷ 128 ∷ 1 ∷ 128 ∷ 128 ∷ 128 ∷ 1 ∷ 128 ∷ 128 ∷ 128 ∷ 1 ∷ 128 ∷ 128 ∷ 128 ∷ 1 ∷ []) ++ flags_from 29 2)
    -- pack: word 7 unused, op 7
    ∷ to_pack (nodes ((10 ∷ 71 ∷ 0 ∷ 0 ∷ 0 ∷ 0 ∷ 0 ∷ 0 ∷ 0 ∷ 87 ∷ 90 ∷ 91 ∷ 94 ∷ []) ∷ (10 ∷ 71 ∷ 0 ∷ 0 ∷ 0 ∷ 0 ∷ 0 ∷ 0 ∷ 0 ∷ 87 ∷ 90 ∷ 91 ∷ 94 ∷ []) ∷ (14 ∷ 99 ∷ 0 ∷ 0 ∷ 0 ∷ 0 ∷ 0 ∷ 18446744073709551614 ∷ 0 ∷ 115 ∷ 118 ∷ 119 ∷ 122 ∷ 123 ∷ 126 ∷ 127 ∷ 130 ∷ []) ∷ [])) 6 gives leaves_bytes (answer 3 2 0) (flags_from 0 6)
    -- pack: word 10 unused, op 10
    ∷ to_pack (nodes ((14 ∷ 99 ∷ 0 ∷ 0 ∷ 0 ∷ 0 ∷ 0 ∷ 0 ∷ 0 ∷ 115 ∷ 118 ∷ 119 ∷ 122 ∷ 123 ∷ 126 ∷ 127 ∷ 130 ∷ []) ∷ (20 ∷ 141 ∷ 144 ∷ 0 ∷ 0 ∷ 0 ∷ 0 ∷ 0 ∷ 0 ∷ 0 ∷ 18446744073709551614 ∷ []) ∷ [])) 6 gives leaves_bytes (answer 3 1 0) (flags_from 0 6)
    -- pack: 3 before 14
    ∷ to_pack (nodes ((0 ∷ 2 ∷ 0 ∷ 0 ∷ 8 ∷ 9 ∷ []) ∷ [])) 0 gives leaves_bytes (answer 3 0 0) []
    -- pack: word 16 unused, op 15
    ∷ to_pack (nodes ((26 ∷ 183 ∷ 186 ∷ []) ∷ (30 ∷ 211 ∷ 214 ∷ 0 ∷ 0 ∷ 0 ∷ 0 ∷ 0 ∷ 0 ∷ 0 ∷ 0 ∷ 0 ∷ 0 ∷ 0 ∷ 0 ∷ 0 ∷ 18446744073709551615 ∷ []) ∷ [])) 6 gives leaves_bytes (answer 3 1 0) (flags_from 0 6)
    -- pack: word 15 unused, op 18
    ∷ to_pack (nodes ((22 ∷ 155 ∷ 158 ∷ []) ∷ (22 ∷ 155 ∷ 158 ∷ []) ∷ (36 ∷ 253 ∷ 256 ∷ 257 ∷ 0 ∷ 0 ∷ 0 ∷ 0 ∷ 0 ∷ 0 ∷ 0 ∷ 0 ∷ 0 ∷ 0 ∷ 0 ∷ 68719476736 ∷ []) ∷ [])) 6 gives leaves_bytes (answer 3 2 0) (flags_from 0 6)
    -- pack: out of range, op 8
    ∷ to_pack (nodes ((16 ∷ 34359738369 ∷ 0 ∷ 0 ∷ 120 ∷ []) ∷ [])) 46 gives leaves_bytes (answer 25 0 0) (flags_from 0 46)
    -- pack: rule 8 is not asked
    ∷ to_pack (nodes ((2 ∷ 0 ∷ 0 ∷ 0 ∷ 6 ∷ 0 ∷ 2 ∷ 2 ∷ 2 ∷ 2 ∷ 6 ∷ []) ∷ (10 ∷ 0 ∷ 0 ∷ 0 ∷ 0 ∷ 0 ∷ 0 ∷ 0 ∷ 0 ∷ 8 ∷ 8 ∷ []) ∷ [])) 19 gives leaves_bytes (answer 0 0 17) ((2 ∷ 1 ∷ 6 ∷ 0 ∷ 2 ∷ 2 ∷ 2 ∷ 2 ∷ 6 ∷ 0 ∷ 0 ∷ 5 ∷ 0 ∷ 8 ∷ 8 ∷ 0 ∷ 0 ∷ []) ++ flags_from 17 2)
    -- pack: word 6 unused, op 16
    ∷ to_pack (nodes ((32 ∷ 225 ∷ 228 ∷ 0 ∷ 0 ∷ 0 ∷ 68719476736 ∷ []) ∷ [])) 6 gives leaves_bytes (answer 3 0 0) (flags_from 0 6)
    -- pack: room -99, op 23
    ∷ to_pack (nodes ((46 ∷ 323 ∷ 326 ∷ 327 ∷ 0 ∷ 331 ∷ []) ∷ [])) 0 gives leaves_bytes (answer 14 0 0) []
    -- pack: word 14 unused, op 16
    ∷ to_pack (nodes ((22 ∷ 155 ∷ 158 ∷ []) ∷ (22 ∷ 155 ∷ 158 ∷ []) ∷ (32 ∷ 225 ∷ 228 ∷ 0 ∷ 0 ∷ 0 ∷ 0 ∷ 0 ∷ 0 ∷ 0 ∷ 0 ∷ 0 ∷ 0 ∷ 0 ∷ 18446744073709551614 ∷ []) ∷ [])) 6 gives leaves_bytes (answer 3 2 0) (flags_from 0 6)
    -- pack: out of range, op 1
    ∷ to_pack (nodes ((16 ∷ 113 ∷ 0 ∷ 0 ∷ 120 ∷ []) ∷ (16 ∷ 113 ∷ 0 ∷ 0 ∷ 120 ∷ []) ∷ (2 ∷ 0 ∷ 0 ∷ 0 ∷ 22 ∷ 23 ∷ 26 ∷ 27 ∷ 30 ∷ 31 ∷ 34 ∷ 35 ∷ 18446744073709551615 ∷ []) ∷ [])) 46 gives leaves_bytes (answer 25 2 0) (flags_from 0 46)
    -- pack: out of range, op 11
    ∷ to_pack (nodes ((22 ∷ 155 ∷ 18446744073709551614 ∷ []) ∷ [])) 46 gives leaves_bytes (answer 25 0 0) (flags_from 0 46)
    -- pack: out of range, op 21
    ∷ to_pack (nodes ((2 ∷ 0 ∷ 0 ∷ 0 ∷ 22 ∷ 23 ∷ 26 ∷ 27 ∷ 30 ∷ 31 ∷ 34 ∷ 35 ∷ 38 ∷ []) ∷ (42 ∷ 295 ∷ 34359738368 ∷ []) ∷ [])) 46 gives leaves_bytes (answer 25 1 0) (flags_from 0 46)
    -- pack: out of range, op 1
    ∷ to_pack (nodes ((2 ∷ 0 ∷ 0 ∷ 0 ∷ 22 ∷ 23 ∷ 26 ∷ 18446744073709551614 ∷ 30 ∷ 31 ∷ 34 ∷ 35 ∷ 38 ∷ []) ∷ [])) 46 gives leaves_bytes (answer 25 0 0) (flags_from 0 46)
    -- pack: 1 before 3
    ∷ to_pack (nodes ((36 ∷ 34359738368 ∷ 34359738368 ∷ 34359738368 ∷ 34359738368 ∷ []) ∷ []) ++ words (0 ∷ [])) 6 gives leaves_bytes (answer 1 0 0) (flags_from 0 6)
    -- pack: word 12 unused, op 22
    ∷ to_pack (nodes ((20 ∷ 141 ∷ 144 ∷ []) ∷ (44 ∷ 309 ∷ 0 ∷ 0 ∷ 0 ∷ 0 ∷ 0 ∷ 0 ∷ 0 ∷ 0 ∷ 0 ∷ 0 ∷ 18446744073709551614 ∷ []) ∷ [])) 6 gives leaves_bytes (answer 3 1 0) (flags_from 0 6)
    -- pack: word 16 unused, op 16
    ∷ to_pack (nodes ((26 ∷ 183 ∷ 186 ∷ []) ∷ (32 ∷ 225 ∷ 228 ∷ 0 ∷ 0 ∷ 0 ∷ 0 ∷ 0 ∷ 0 ∷ 0 ∷ 0 ∷ 0 ∷ 0 ∷ 0 ∷ 0 ∷ 0 ∷ 68719476736 ∷ []) ∷ [])) 6 gives leaves_bytes (answer 3 1 0) (flags_from 0 6)
    -- pack: word 7 unused, op 13
    ∷ to_pack (nodes ((8 ∷ 57 ∷ 0 ∷ 0 ∷ 0 ∷ 0 ∷ 0 ∷ 0 ∷ 0 ∷ 73 ∷ 76 ∷ 77 ∷ 80 ∷ []) ∷ (26 ∷ 183 ∷ 186 ∷ 0 ∷ 0 ∷ 0 ∷ 0 ∷ 18446744073709551614 ∷ []) ∷ [])) 6 gives leaves_bytes (answer 3 1 0) (flags_from 0 6)
    -- pack: word 13 unused, op 2
    ∷ to_pack (nodes ((14 ∷ 99 ∷ 0 ∷ 0 ∷ 0 ∷ 0 ∷ 0 ∷ 0 ∷ 0 ∷ 115 ∷ 118 ∷ 119 ∷ 122 ∷ 123 ∷ 126 ∷ 127 ∷ 130 ∷ []) ∷ (4 ∷ 29 ∷ 0 ∷ 0 ∷ 0 ∷ 0 ∷ 0 ∷ 0 ∷ 0 ∷ 45 ∷ 48 ∷ 49 ∷ 52 ∷ 68719476736 ∷ []) ∷ [])) 6 gives leaves_bytes (answer 3 1 0) (flags_from 0 6)
    -- pack: word 16 unused, op 11
    ∷ to_pack (nodes ((26 ∷ 183 ∷ 186 ∷ []) ∷ (22 ∷ 155 ∷ 158 ∷ 0 ∷ 0 ∷ 0 ∷ 0 ∷ 0 ∷ 0 ∷ 0 ∷ 0 ∷ 0 ∷ 0 ∷ 0 ∷ 0 ∷ 0 ∷ 68719476736 ∷ []) ∷ [])) 6 gives leaves_bytes (answer 3 1 0) (flags_from 0 6)
    -- pack: word 5 unused, op 10
    ∷ to_pack (nodes ((4 ∷ 29 ∷ 0 ∷ 0 ∷ 0 ∷ 0 ∷ 0 ∷ 0 ∷ 0 ∷ 45 ∷ 48 ∷ 49 ∷ 52 ∷ []) ∷ (4 ∷ 29 ∷ 0 ∷ 0 ∷ 0 ∷ 0 ∷ 0 ∷ 0 ∷ 0 ∷ 45 ∷ 48 ∷ 49 ∷ 52 ∷ []) ∷ (20 ∷ 141 ∷ 144 ∷ 0 ∷ 0 ∷ 18446744073709551614 ∷ []) ∷ [])) 6 gives leaves_bytes (answer 3 2 0) (flags_from 0 6)
    -- pack: word 5 unused, op 14
    ∷ to_pack (nodes ((4 ∷ 29 ∷ 0 ∷ 0 ∷ 0 ∷ 0 ∷ 0 ∷ 0 ∷ 0 ∷ 45 ∷ 48 ∷ 49 ∷ 52 ∷ []) ∷ (4 ∷ 29 ∷ 0 ∷ 0 ∷ 0 ∷ 0 ∷ 0 ∷ 0 ∷ 0 ∷ 45 ∷ 48 ∷ 49 ∷ 52 ∷ []) ∷ (28 ∷ 197 ∷ 200 ∷ 0 ∷ 0 ∷ 1 ∷ []) ∷ [])) 6 gives leaves_bytes (answer 3 2 0) (flags_from 0 6)
    -- pack: room 4, op 22
    ∷ to_pack (nodes ((44 ∷ 309 ∷ []) ∷ [])) 10 gives leaves_bytes (answer 0 0 6) ((0 ∷ 2 ∷ 1 ∷ 22 ∷ 181 ∷ 2 ∷ []) ++ flags_from 6 4)
    -- pack: out of range, op 20
    ∷ to_pack (nodes ((40 ∷ 34359738369 ∷ 0 ∷ 0 ∷ 0 ∷ 0 ∷ 292 ∷ []) ∷ [])) 46 gives leaves_bytes (answer 25 0 0) (flags_from 0 46)
    -- pack: out of range, op 1
    ∷ to_pack (nodes ((2 ∷ 0 ∷ 0 ∷ 0 ∷ 34359738369 ∷ 23 ∷ 26 ∷ 27 ∷ 30 ∷ 31 ∷ 34 ∷ 35 ∷ 38 ∷ []) ∷ [])) 46 gives leaves_bytes (answer 25 0 0) (flags_from 0 46)
    -- pack: word 14 unused, op 12
    ∷ to_pack (nodes ((22 ∷ 155 ∷ 158 ∷ []) ∷ (22 ∷ 155 ∷ 158 ∷ []) ∷ (24 ∷ 169 ∷ 172 ∷ 0 ∷ 0 ∷ 0 ∷ 0 ∷ 0 ∷ 0 ∷ 0 ∷ 0 ∷ 0 ∷ 0 ∷ 0 ∷ 18446744073709551615 ∷ []) ∷ [])) 6 gives leaves_bytes (answer 3 2 0) (flags_from 0 6)
    -- pack: rule 4 is not asked
    ∷ to_pack (nodes ((2 ∷ 0 ∷ 0 ∷ 0 ∷ 0 ∷ 0 ∷ 2 ∷ 2 ∷ 2 ∷ 4 ∷ 6 ∷ []) ∷ (2 ∷ 0 ∷ 0 ∷ 0 ∷ 0 ∷ 2 ∷ 2 ∷ 2 ∷ 2 ∷ 4 ∷ 6 ∷ []) ∷ (32 ∷ 0 ∷ 1 ∷ []) ∷ [])) 26 gives leaves_bytes (answer 0 0 24) ((3 ∷ 1 ∷ 0 ∷ 0 ∷ 2 ∷ 2 ∷ 2 ∷ 4 ∷ 6 ∷ 0 ∷ 0 ∷ 1 ∷ 0 ∷ 2 ∷ 2 ∷ 2 ∷ 2 ∷ 4 ∷ 6 ∷ 0 ∷ 0 ∷ 16 ∷ 0 ∷ 1 ∷ []) ++ flags_from 24 2)
    -- pack: word 6 unused, op 13
    ∷ to_pack (nodes ((26 ∷ 183 ∷ 186 ∷ 0 ∷ 0 ∷ 0 ∷ 1 ∷ []) ∷ [])) 6 gives leaves_bytes (answer 3 0 0) (flags_from 0 6)
    -- pack: out of range, op 15
    ∷ to_pack (nodes ((30 ∷ 211 ∷ 18446744073709551614 ∷ []) ∷ [])) 46 gives leaves_bytes (answer 25 0 0) (flags_from 0 46)
    -- pack: word 13 unused, op 15
    ∷ to_pack (nodes ((20 ∷ 141 ∷ 144 ∷ []) ∷ (30 ∷ 211 ∷ 214 ∷ 0 ∷ 0 ∷ 0 ∷ 0 ∷ 0 ∷ 0 ∷ 0 ∷ 0 ∷ 0 ∷ 0 ∷ 2 ∷ []) ∷ [])) 6 gives leaves_bytes (answer 3 1 0) (flags_from 0 6)
    -- pack: word 16 unused, op 20
    ∷ to_pack (nodes ((26 ∷ 183 ∷ 186 ∷ []) ∷ (40 ∷ 281 ∷ 0 ∷ 0 ∷ 0 ∷ 0 ∷ 292 ∷ 0 ∷ 0 ∷ 0 ∷ 0 ∷ 0 ∷ 0 ∷ 0 ∷ 0 ∷ 0 ∷ 18446744073709551615 ∷ []) ∷ [])) 6 gives leaves_bytes (answer 3 1 0) (flags_from 0 6)
    -- pack: room 0, op 6
    ∷ to_pack (nodes ((12 ∷ 85 ∷ 0 ∷ 0 ∷ 0 ∷ 0 ∷ 0 ∷ 0 ∷ 0 ∷ 101 ∷ 104 ∷ 105 ∷ 108 ∷ 109 ∷ 112 ∷ 113 ∷ 116 ∷ []) ∷ [])) 11 gives leaves_bytes (answer 0 0 11) (1 ∷ 6 ∷ 85 ∷ 101 ∷ 104 ∷ 105 ∷ 108 ∷ 109 ∷ 112 ∷ 113 ∷ 116 ∷ [])
    -- pack: room -99, op 17
    ∷ to_pack (nodes ((34 ∷ 239 ∷ 242 ∷ []) ∷ [])) 0 gives leaves_bytes (answer 14 0 0) []
    -- pack: word 15 unused, op 2
    ∷ to_pack (nodes ((4 ∷ 29 ∷ 0 ∷ 0 ∷ 0 ∷ 0 ∷ 0 ∷ 0 ∷ 0 ∷ 45 ∷ 48 ∷ 49 ∷ 52 ∷ 0 ∷ 0 ∷ 1 ∷ []) ∷ [])) 6 gives leaves_bytes (answer 3 0 0) (flags_from 0 6)
    -- pack: out of range, op 7
    ∷ to_pack (nodes ((14 ∷ 99 ∷ 0 ∷ 0 ∷ 0 ∷ 0 ∷ 0 ∷ 0 ∷ 0 ∷ 115 ∷ 118 ∷ 18446744073709551614 ∷ 122 ∷ 123 ∷ 126 ∷ 127 ∷ 130 ∷ []) ∷ [])) 46 gives leaves_bytes (answer 25 0 0) (flags_from 0 46)
    -- pack: random
    ∷ to_pack (nodes ((2 ∷ 0 ∷ 0 ∷ 0 ∷ 7143448 ∷ 0 ∷ 3 ∷ 79463501 ∷ 74765 ∷ 3863392058 ∷ 2850376 ∷ 9 ∷ 26434359 ∷ []) ∷ (26 ∷ 1252018 ∷ 1949075 ∷ []) ∷ (36 ∷ 6266 ∷ 360 ∷ 123308627 ∷ []) ∷ [])) 44 gives leaves_bytes (answer 14 0 0) (flags_from 0 44)
    -- pack: random
    ∷ to_pack (nodes ((22 ∷ 127823 ∷ 260168751 ∷ []) ∷ (28 ∷ 963127106 ∷ 829 ∷ []) ∷ (26 ∷ 12 ∷ 15492524810 ∷ []) ∷ (32 ∷ 74733 ∷ 178427881 ∷ []) ∷ [])) 31 gives leaves_bytes (answer 14 0 0) (flags_from 0 31)
    -- pack: 3 of a node before 25
    ∷ to_pack (nodes ((0 ∷ 0 ∷ 0 ∷ 0 ∷ 2 ∷ 18 ∷ []) ∷ (36 ∷ 34359738368 ∷ 34359738368 ∷ 34359738368 ∷ 34359738368 ∷ []) ∷ (0 ∷ 0 ∷ 0 ∷ 0 ∷ 34359738369 ∷ 9 ∷ []) ∷ [])) 36 gives leaves_bytes (answer 3 1 0) (flags_from 0 36)
    -- pack: out of range, op 19
    ∷ to_pack (nodes ((2 ∷ 0 ∷ 0 ∷ 0 ∷ 22 ∷ 23 ∷ 26 ∷ 27 ∷ 30 ∷ 31 ∷ 34 ∷ 35 ∷ 38 ∷ []) ∷ (38 ∷ 267 ∷ 0 ∷ 0 ∷ 0 ∷ 34359738368 ∷ 0 ∷ 0 ∷ 0 ∷ 283 ∷ 286 ∷ 287 ∷ 290 ∷ []) ∷ [])) 46 gives leaves_bytes (answer 25 1 0) (flags_from 0 46)
    -- pack: word 4 unused, op 13
    ∷ to_pack (nodes ((2 ∷ 0 ∷ 0 ∷ 0 ∷ 22 ∷ 23 ∷ 26 ∷ 27 ∷ 30 ∷ 31 ∷ 34 ∷ 35 ∷ 38 ∷ []) ∷ (26 ∷ 183 ∷ 186 ∷ 0 ∷ 68719476736 ∷ []) ∷ [])) 6 gives leaves_bytes (answer 3 1 0) (flags_from 0 6)
    -- pack: room -1, op 9
    ∷ to_pack (nodes ((18 ∷ 127 ∷ 130 ∷ []) ∷ [])) 4 gives leaves_bytes (answer 14 0 0) (flags_from 0 4)
    -- pack: room 4, op 1
    ∷ to_pack (nodes ((2 ∷ 0 ∷ 0 ∷ 0 ∷ 22 ∷ 23 ∷ 26 ∷ 27 ∷ 30 ∷ 31 ∷ 34 ∷ 35 ∷ 38 ∷ []) ∷ [])) 15 gives leaves_bytes (answer 0 0 11) ((1 ∷ 1 ∷ 22 ∷ 23 ∷ 26 ∷ 27 ∷ 30 ∷ 31 ∷ 34 ∷ 35 ∷ 38 ∷ []) ++ flags_from 11 4)
    ∷ []

pub packs10_agrees : Agree packs10
unfolding everything
packs10_agrees = refl
