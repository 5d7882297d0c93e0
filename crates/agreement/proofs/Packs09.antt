-- Written by tests/model/tables.py: change that script or cases.py, never this file.
use mathlib.Core.Path.{refl}
use mathlib.Core.List.{List, [], ◌∷◌, ◌++◌}
use Rattle.guarantees.proofs.Everything.{everything}
use Rattle.agreement.specs.Cases.{words, nodes, flags_from, to_pack, leaves_bytes, answer, Case, ◌gives◌, Agree}

abbrev pub packs09 : List Case
packs09 =
    -- pack: 33 words
    to_pack (nodes ((0 ∷ 0 ∷ 0 ∷ 0 ∷ 4 ∷ 17 ∷ []) ∷ []) ++ words (0 ∷ 0 ∷ 0 ∷ 0 ∷ 4 ∷ 17 ∷ 0 ∷ 0 ∷ 0 ∷ 0 ∷ 0 ∷ 0 ∷ 0 ∷ 0 ∷ 0 ∷ 0 ∷ [])) 7 gives leaves_bytes (answer 1 0 0) (flags_from 0 7)
    -- pack: 1 before 2
    ∷ to_pack (nodes ((48 ∷ 18446744073709551615 ∷ 18446744073709551615 ∷ 18446744073709551615 ∷ 18446744073709551615 ∷ 18446744073709551615 ∷ 18446744073709551615 ∷ 18446744073709551615 ∷ 18446744073709551615 ∷ 18446744073709551615 ∷ 18446744073709551615 ∷ 18446744073709551615 ∷ 18446744073709551615 ∷ 18446744073709551615 ∷ 18446744073709551615 ∷ 18446744073709551615 ∷ 18446744073709551615 ∷ []) ∷ []) ++ words (0 ∷ [])) 6 gives leaves_bytes (answer 1 0 0) (flags_from 0 6)
    -- pack: room -1, op 6
    ∷ to_pack (nodes ((12 ∷ 85 ∷ 0 ∷ 0 ∷ 0 ∷ 0 ∷ 0 ∷ 0 ∷ 0 ∷ 101 ∷ 104 ∷ 105 ∷ 108 ∷ 109 ∷ 112 ∷ 113 ∷ 116 ∷ []) ∷ [])) 10 gives leaves_bytes (answer 14 0 0) (flags_from 0 10)
    -- pack: word 12 unused, op 13
    ∷ to_pack (nodes ((26 ∷ 183 ∷ 186 ∷ 0 ∷ 0 ∷ 0 ∷ 0 ∷ 0 ∷ 0 ∷ 0 ∷ 0 ∷ 0 ∷ 18446744073709551614 ∷ []) ∷ [])) 6 gives leaves_bytes (answer 3 0 0) (flags_from 0 6)
    -- pack: room 4, op 7
    ∷ to_pack (nodes ((14 ∷ 99 ∷ 0 ∷ 0 ∷ 0 ∷ 0 ∷ 0 ∷ 0 ∷ 0 ∷ 115 ∷ 118 ∷ 119 ∷ 122 ∷ 123 ∷ 126 ∷ 127 ∷ 130 ∷ []) ∷ [])) 16 gives leaves_bytes (answer 0 0 12) ((1 ∷ 7 ∷ 99 ∷ 115 ∷ 118 ∷ 119 ∷ 122 ∷ 123 ∷ 126 ∷ 127 ∷ 130 ∷ 1 ∷ []) ++ flags_from 12 4)
    -- pack: word 3 unused, op 21
    ∷ to_pack (nodes ((42 ∷ 295 ∷ 298 ∷ 1 ∷ []) ∷ [])) 6 gives leaves_bytes (answer 3 0 0) (flags_from 0 6)
    -- pack: word 2 unused, op 6
    ∷ to_pack (nodes ((12 ∷ 85 ∷ 1 ∷ 0 ∷ 0 ∷ 0 ∷ 0 ∷ 0 ∷ 0 ∷ 101 ∷ 104 ∷ 105 ∷ 108 ∷ 109 ∷ 112 ∷ 113 ∷ 116 ∷ []) ∷ [])) 6 gives leaves_bytes (answer 3 0 0) (flags_from 0 6)
    -- pack: out of range, op 3
    ∷ to_pack (nodes ((6 ∷ 43 ∷ 0 ∷ 0 ∷ 0 ∷ 0 ∷ 0 ∷ 0 ∷ 0 ∷ 59 ∷ 62 ∷ 18446744073709551614 ∷ 66 ∷ []) ∷ [])) 46 gives leaves_bytes (answer 25 0 0) (flags_from 0 46)
    -- pack: out of range, op 20
    ∷ to_pack (nodes ((40 ∷ 281 ∷ 0 ∷ 0 ∷ 0 ∷ 0 ∷ 18446744073709551614 ∷ []) ∷ [])) 46 gives leaves_bytes (answer 25 0 0) (flags_from 0 46)
    -- pack: out of range, op 6
    ∷ to_pack (nodes ((12 ∷ 85 ∷ 0 ∷ 0 ∷ 0 ∷ 0 ∷ 0 ∷ 0 ∷ 0 ∷ 101 ∷ 104 ∷ 105 ∷ 108 ∷ 109 ∷ 18446744073709551614 ∷ 113 ∷ 116 ∷ []) ∷ [])) 46 gives leaves_bytes (answer 25 0 0) (flags_from 0 46)
    -- pack: room -1, op 12
    ∷ to_pack (nodes ((24 ∷ 169 ∷ 172 ∷ []) ∷ [])) 5 gives leaves_bytes (answer 14 0 0) (flags_from 0 5)
    -- pack: word 8 unused, op 22
    ∷ to_pack (nodes ((44 ∷ 309 ∷ 0 ∷ 0 ∷ 0 ∷ 0 ∷ 0 ∷ 0 ∷ 18446744073709551615 ∷ []) ∷ [])) 6 gives leaves_bytes (answer 3 0 0) (flags_from 0 6)
    -- pack: word 8 unused, op 0
    ∷ to_pack (nodes ((10 ∷ 71 ∷ 0 ∷ 0 ∷ 0 ∷ 0 ∷ 0 ∷ 0 ∷ 0 ∷ 87 ∷ 90 ∷ 91 ∷ 94 ∷ []) ∷ (10 ∷ 71 ∷ 0 ∷ 0 ∷ 0 ∷ 0 ∷ 0 ∷ 0 ∷ 0 ∷ 87 ∷ 90 ∷ 91 ∷ 94 ∷ []) ∷ (0 ∷ 0 ∷ 0 ∷ 0 ∷ 8 ∷ 9 ∷ 0 ∷ 0 ∷ 2 ∷ []) ∷ [])) 6 gives leaves_bytes (answer 3 2 0) (flags_from 0 6)
    -- pack: random
    ∷ to_pack (nodes ((36 ∷ 1763031 ∷ 5205 ∷ 1970236 ∷ []) ∷ (22 ∷ 0 ∷ 2 ∷ []) ∷ (0 ∷ 0 ∷ 0 ∷ 0 ∷ 0 ∷ 96578566 ∷ []) ∷ (42 ∷ 562886 ∷ 3 ∷ []) ∷ [])) 29 gives leaves_bytes (answer 0 0 26) ((0 ∷ 2 ∷ 4 ∷ 18 ∷ 215 ∷ 205 ∷ 107 ∷ 213 ∷ 40 ∷ 188 ∷ 160 ∷ 120 ∷ 11 ∷ 0 ∷ 2 ∷ 0 ∷ 0 ∷ 134 ∷ 216 ∷ 134 ∷ 46 ∷ 21 ∷ 198 ∷ 173 ∷ 34 ∷ 3 ∷ []) ++ flags_from 26 3)
    -- pack: out of range, op 8
    ∷ to_pack (nodes ((16 ∷ 113 ∷ 0 ∷ 0 ∷ 18446744073709551614 ∷ []) ∷ [])) 46 gives leaves_bytes (answer 25 0 0) (flags_from 0 46)
    -- pack: rule 6 is not asked
    ∷ to_pack (nodes ((2 ∷ 0 ∷ 0 ∷ 0 ∷ 0 ∷ 0 ∷ 2 ∷ 2 ∷ 2 ∷ 4 ∷ 6 ∷ []) ∷ (2 ∷ 0 ∷ 0 ∷ 0 ∷ 0 ∷ 2 ∷ 2 ∷ 2 ∷ 2 ∷ 4 ∷ 6 ∷ []) ∷ (2 ∷ 0 ∷ 0 ∷ 0 ∷ 6 ∷ 4 ∷ 2 ∷ 2 ∷ 2 ∷ 4 ∷ 6 ∷ []) ∷ (36 ∷ 0 ∷ 2 ∷ 4 ∷ []) ∷ [])) 37 gives leaves_bytes (answer 0 0 35) ((4 ∷ 1 ∷ 0 ∷ 0 ∷ 2 ∷ 2 ∷ 2 ∷ 4 ∷ 6 ∷ 0 ∷ 0 ∷ 1 ∷ 0 ∷ 2 ∷ 2 ∷ 2 ∷ 2 ∷ 4 ∷ 6 ∷ 0 ∷ 0 ∷ 1 ∷ 6 ∷ 4 ∷ 2 ∷ 2 ∷ 2 ∷ 4 ∷ 6 ∷ 0 ∷ 0 ∷ 18 ∷ 0 ∷ 2 ∷ 4 ∷ []) ++ flags_from 35 2)
    -- pack: word 4 unused, op 10
    ∷ to_pack (nodes ((2 ∷ 0 ∷ 0 ∷ 0 ∷ 22 ∷ 23 ∷ 26 ∷ 27 ∷ 30 ∷ 31 ∷ 34 ∷ 35 ∷ 38 ∷ []) ∷ (20 ∷ 141 ∷ 144 ∷ 0 ∷ 1 ∷ []) ∷ [])) 6 gives leaves_bytes (answer 3 1 0) (flags_from 0 6)
    -- pack: random
    ∷ to_pack (nodes ((6 ∷ 56749326 ∷ 0 ∷ 0 ∷ 0 ∷ 0 ∷ 0 ∷ 0 ∷ 0 ∷ 0 ∷ 12251885 ∷ 462 ∷ 41006878 ∷ []) ∷ (12 ∷ 1469 ∷ 0 ∷ 0 ∷ 0 ∷ 0 ∷ 0 ∷ 0 ∷ 0 ∷ 5 ∷ 1 ∷ 5609694 ∷ 1 ∷ 72253139 ∷ 28 ∷ 13755 ∷ 1007231704 ∷ []) ∷ (2 ∷ 0 ∷ 0 ∷ 0 ∷ 3 ∷ 53063 ∷ 1614513 ∷ 0 ∷ 5964168 ∷ 9957536 ∷ 6431371 ∷ 22791942 ∷ 90039139 ∷ []) ∷ (12 ∷ 7154897 ∷ 0 ∷ 0 ∷ 0 ∷ 0 ∷ 0 ∷ 0 ∷ 0 ∷ 4 ∷ 304711397 ∷ 36030836 ∷ 30199667 ∷ 1 ∷ 34359738368 ∷ 7376486 ∷ 30 ∷ []) ∷ (14 ∷ 34527473 ∷ 0 ∷ 0 ∷ 0 ∷ 0 ∷ 0 ∷ 0 ∷ 0 ∷ 181740229 ∷ 30265505 ∷ 1602258 ∷ 12 ∷ 136498 ∷ 329207 ∷ 8030578 ∷ 263913678 ∷ []) ∷ [])) 6 gives leaves_bytes (answer 25 3 0) (flags_from 0 6)
    -- pack: random
    ∷ to_pack (nodes ((12 ∷ 12 ∷ 0 ∷ 0 ∷ 0 ∷ 0 ∷ 0 ∷ 0 ∷ 0 ∷ 3 ∷ 189302820 ∷ 78 ∷ 446601 ∷ 5985141722 ∷ 25918901571 ∷ 538433 ∷ 14 ∷ []) ∷ (6 ∷ 2954121925 ∷ 0 ∷ 0 ∷ 0 ∷ 0 ∷ 0 ∷ 0 ∷ 0 ∷ 132140502 ∷ 13 ∷ 6 ∷ 8535 ∷ []) ∷ (42 ∷ 17 ∷ 100330 ∷ []) ∷ (42 ∷ 70136588 ∷ 107558830 ∷ []) ∷ (38 ∷ 43967 ∷ 0 ∷ 0 ∷ 0 ∷ 9084 ∷ 0 ∷ 0 ∷ 0 ∷ 89602 ∷ 1 ∷ 2131038926 ∷ 2045331100 ∷ []) ∷ (24 ∷ 1905 ∷ 23 ∷ []) ∷ [])) 80 gives leaves_bytes (answer 0 0 80) (0 ∷ 2 ∷ 6 ∷ 6 ∷ 12 ∷ 3 ∷ 164 ∷ 144 ∷ 162 ∷ 90 ∷ 78 ∷ 137 ∷ 161 ∷ 27 ∷ 218 ∷ 135 ∷ 248 ∷ 165 ∷ 22 ∷ 195 ∷ 154 ∷ 140 ∷ 199 ∷ 96 ∷ 193 ∷ 238 ∷ 32 ∷ 14 ∷ 3 ∷ 197 ∷ 165 ∷ 209 ∷ 128 ∷ 11 ∷ 214 ∷ 155 ∷ 129 ∷ 63 ∷ 13 ∷ 6 ∷ 215 ∷ 66 ∷ 21 ∷ 17 ∷ 234 ∷ 143 ∷ 6 ∷ 21 ∷ 140 ∷ 230 ∷ 184 ∷ 33 ∷ 174 ∷ 239 ∷ 164 ∷ 51 ∷ 19 ∷ 191 ∷ 215 ∷ 2 ∷ 252 ∷ 70 ∷ 130 ∷ 188 ∷ 5 ∷ 1 ∷ 206 ∷ 165 ∷ 148 ∷ 248 ∷ 7 ∷ 156 ∷ 141 ∷ 165 ∷ 207 ∷ 7 ∷ 12 ∷ 241 ∷ 14 ∷ 23 ∷ [])
    -- pack: out of range, op 2
    ∷ to_pack (nodes ((8 ∷ 57 ∷ 0 ∷ 0 ∷ 0 ∷ 0 ∷ 0 ∷ 0 ∷ 0 ∷ 73 ∷ 76 ∷ 77 ∷ 80 ∷ []) ∷ (4 ∷ 29 ∷ 0 ∷ 0 ∷ 0 ∷ 0 ∷ 0 ∷ 0 ∷ 0 ∷ 45 ∷ 48 ∷ 49 ∷ 34359738368 ∷ []) ∷ [])) 46 gives leaves_bytes (answer 25 1 0) (flags_from 0 46)
    -- pack: word 14 unused, op 17
    ∷ to_pack (nodes ((22 ∷ 155 ∷ 158 ∷ []) ∷ (22 ∷ 155 ∷ 158 ∷ []) ∷ (34 ∷ 239 ∷ 242 ∷ 0 ∷ 0 ∷ 0 ∷ 0 ∷ 0 ∷ 0 ∷ 0 ∷ 0 ∷ 0 ∷ 0 ∷ 0 ∷ 18446744073709551615 ∷ []) ∷ [])) 6 gives leaves_bytes (answer 3 2 0) (flags_from 0 6)
    -- pack: word 5 unused, op 8
    ∷ to_pack (nodes ((4 ∷ 29 ∷ 0 ∷ 0 ∷ 0 ∷ 0 ∷ 0 ∷ 0 ∷ 0 ∷ 45 ∷ 48 ∷ 49 ∷ 52 ∷ []) ∷ (4 ∷ 29 ∷ 0 ∷ 0 ∷ 0 ∷ 0 ∷ 0 ∷ 0 ∷ 0 ∷ 45 ∷ 48 ∷ 49 ∷ 52 ∷ []) ∷ (16 ∷ 113 ∷ 0 ∷ 0 ∷ 120 ∷ 2 ∷ []) ∷ [])) 6 gives leaves_bytes (answer 3 2 0) (flags_from 0 6)
    -- pack: word 14 unused, op 4
    ∷ to_pack (nodes ((16 ∷ 113 ∷ 0 ∷ 0 ∷ 120 ∷ []) ∷ (16 ∷ 113 ∷ 0 ∷ 0 ∷ 120 ∷ []) ∷ (8 ∷ 57 ∷ 0 ∷ 0 ∷ 0 ∷ 0 ∷ 0 ∷ 0 ∷ 0 ∷ 73 ∷ 76 ∷ 77 ∷ 80 ∷ 0 ∷ 18446744073709551614 ∷ []) ∷ [])) 6 gives leaves_bytes (answer 3 2 0) (flags_from 0 6)
    -- pack: word 5 unused, op 4
    ∷ to_pack (nodes ((8 ∷ 57 ∷ 0 ∷ 0 ∷ 0 ∷ 18446744073709551614 ∷ 0 ∷ 0 ∷ 0 ∷ 73 ∷ 76 ∷ 77 ∷ 80 ∷ []) ∷ [])) 6 gives leaves_bytes (answer 3 0 0) (flags_from 0 6)
    -- pack: random
    ∷ to_pack (nodes ((42 ∷ 226436275 ∷ 1 ∷ []) ∷ [])) 9 gives leaves_bytes (answer 0 0 9) (0 ∷ 2 ∷ 1 ∷ 21 ∷ 179 ∷ 201 ∷ 252 ∷ 107 ∷ 1 ∷ [])
    -- pack: word 13 unused, op 14
    ∷ to_pack (nodes ((20 ∷ 141 ∷ 144 ∷ []) ∷ (28 ∷ 197 ∷ 200 ∷ 0 ∷ 0 ∷ 0 ∷ 0 ∷ 0 ∷ 0 ∷ 0 ∷ 0 ∷ 0 ∷ 0 ∷ 68719476736 ∷ []) ∷ [])) 6 gives leaves_bytes (answer 3 1 0) (flags_from 0 6)
    -- pack: word 5 unused, op 16
    ∷ to_pack (nodes ((4 ∷ 29 ∷ 0 ∷ 0 ∷ 0 ∷ 0 ∷ 0 ∷ 0 ∷ 0 ∷ 45 ∷ 48 ∷ 49 ∷ 52 ∷ []) ∷ (4 ∷ 29 ∷ 0 ∷ 0 ∷ 0 ∷ 0 ∷ 0 ∷ 0 ∷ 0 ∷ 45 ∷ 48 ∷ 49 ∷ 52 ∷ []) ∷ (32 ∷ 225 ∷ 228 ∷ 0 ∷ 0 ∷ 18446744073709551615 ∷ []) ∷ [])) 6 gives leaves_bytes (answer 3 2 0) (flags_from 0 6)
    -- pack: word 10 unused, op 22
    ∷ to_pack (nodes ((16 ∷ 113 ∷ 0 ∷ 0 ∷ 120 ∷ []) ∷ (16 ∷ 113 ∷ 0 ∷ 0 ∷ 120 ∷ []) ∷ (44 ∷ 309 ∷ 0 ∷ 0 ∷ 0 ∷ 0 ∷ 0 ∷ 0 ∷ 0 ∷ 0 ∷ 2 ∷ []) ∷ [])) 6 gives leaves_bytes (answer 3 2 0) (flags_from 0 6)
    -- pack: room 0, op 10
    ∷ to_pack (nodes ((20 ∷ 141 ∷ 144 ∷ []) ∷ [])) 6 gives leaves_bytes (answer 0 0 6) (1 ∷ 10 ∷ 141 ∷ 1 ∷ 144 ∷ 1 ∷ [])
    -- pack: ends, op 22
    ∷ to_pack (nodes ((44 ∷ []) ∷ (44 ∷ 2 ∷ []) ∷ (44 ∷ 1 ∷ []) ∷ (44 ∷ 126 ∷ []) ∷ (44 ∷ 128 ∷ []) ∷ (44 ∷ 127 ∷ []) ∷ (44 ∷ 129 ∷ []) ∷ (44 ∷ 16382 ∷ []) ∷ (44 ∷ 16384 ∷ []) ∷ (44 ∷ 16383 ∷ []) ∷ (44 ∷ 16385 ∷ []) ∷ (44 ∷ 2097150 ∷ []) ∷ (44 ∷ 2097152 ∷ []) ∷ (44 ∷ 2097151 ∷ []) ∷ (44 ∷ 2097153 ∷ []) ∷ (44 ∷ 268435454 ∷ []) ∷ (44 ∷ 268435456 ∷ []) ∷ (44 ∷ 268435455 ∷ []) ∷ (44 ∷ 268435457 ∷ []) ∷ (44 ∷ 34359738367 ∷ []) ∷ (44 ∷ 34359738366 ∷ []) ∷ [])) 86 gives leaves_bytes (answer 0 0 85) ((0 ∷ 2 ∷ 21 ∷ 22 ∷ 0 ∷ 22 ∷ 2 ∷ 22 ∷ 1 ∷ 22 ∷ 126 ∷ 22 ∷ 128 ∷ 1 ∷ 22 ∷ 127 ∷ 22 ∷ 129 ∷ 1 ∷ 22 ∷ 254 ∷ 127 ∷ 22 ∷ 128 ∷ 128 ∷ 1 ∷ 22 ∷ 255 ∷ 127 ∷ 22 ∷ 129 ∷ 128 ∷ 1 ∷ 22 ∷ 254 ∷ 255 ∷ 127 ∷ 22 ∷ 128 ∷ 128 ∷ 128 ∷ 1 ∷ 22 ∷ 255 ∷ 255 ∷ 127 ∷ 22 ∷ 129 ∷ 128 ∷ 128 ∷ 1 ∷ 22 ∷ 254 ∷ 255 ∷ 255 ∷ 127 ∷ 22 ∷ 128 ∷ 128 ∷ 128 ∷ 128 ∷ 1 ∷ 22 ∷ 255 ∷ 255 ∷ 255 ∷ 127 ∷ 22 ∷ 129 ∷ 128 ∷ 128 ∷ 128 ∷ 1 ∷ 22 ∷ 255 ∷ 255 ∷ 255 ∷ 255 ∷ 127 ∷ 22 ∷ 254 ∷ 255 ∷ 255 ∷ 255 ∷ 127 ∷ []) ++ flags_from 85 1)
    -- pack: out of range, op 5
    ∷ to_pack (nodes ((4 ∷ 29 ∷ 0 ∷ 0 ∷ 0 ∷ 0 ∷ 0 ∷ 0 ∷ 0 ∷ 45 ∷ 48 ∷ 49 ∷ 52 ∷ []) ∷ (4 ∷ 29 ∷ 0 ∷ 0 ∷ 0 ∷ 0 ∷ 0 ∷ 0 ∷ 0 ∷ 45 ∷ 48 ∷ 49 ∷ 52 ∷ []) ∷ (10 ∷ 71 ∷ 0 ∷ 0 ∷ 0 ∷ 0 ∷ 0 ∷ 0 ∷ 0 ∷ 87 ∷ 18446744073709551615 ∷ 91 ∷ 94 ∷ []) ∷ [])) 46 gives leaves_bytes (answer 25 2 0) (flags_from 0 46)
    -- pack: word 5 unused, op 18
    ∷ to_pack (nodes ((2 ∷ 0 ∷ 0 ∷ 0 ∷ 22 ∷ 23 ∷ 26 ∷ 27 ∷ 30 ∷ 31 ∷ 34 ∷ 35 ∷ 38 ∷ []) ∷ (36 ∷ 253 ∷ 256 ∷ 257 ∷ 0 ∷ 68719476736 ∷ []) ∷ [])) 6 gives leaves_bytes (answer 3 1 0) (flags_from 0 6)
    -- pack: out of range, op 6
    ∷ to_pack (nodes ((16 ∷ 113 ∷ 0 ∷ 0 ∷ 120 ∷ []) ∷ (16 ∷ 113 ∷ 0 ∷ 0 ∷ 120 ∷ []) ∷ (12 ∷ 85 ∷ 0 ∷ 0 ∷ 0 ∷ 0 ∷ 0 ∷ 0 ∷ 0 ∷ 101 ∷ 104 ∷ 105 ∷ 108 ∷ 109 ∷ 112 ∷ 113 ∷ 18446744073709551615 ∷ []) ∷ [])) 46 gives leaves_bytes (answer 25 2 0) (flags_from 0 46)
    -- pack: out of range, op 17
    ∷ to_pack (nodes ((4 ∷ 29 ∷ 0 ∷ 0 ∷ 0 ∷ 0 ∷ 0 ∷ 0 ∷ 0 ∷ 45 ∷ 48 ∷ 49 ∷ 52 ∷ []) ∷ (4 ∷ 29 ∷ 0 ∷ 0 ∷ 0 ∷ 0 ∷ 0 ∷ 0 ∷ 0 ∷ 45 ∷ 48 ∷ 49 ∷ 52 ∷ []) ∷ (34 ∷ 18446744073709551615 ∷ 242 ∷ []) ∷ [])) 46 gives leaves_bytes (answer 25 2 0) (flags_from 0 46)
    -- pack: word 8 unused, op 15
    ∷ to_pack (nodes ((10 ∷ 71 ∷ 0 ∷ 0 ∷ 0 ∷ 0 ∷ 0 ∷ 0 ∷ 0 ∷ 87 ∷ 90 ∷ 91 ∷ 94 ∷ []) ∷ (10 ∷ 71 ∷ 0 ∷ 0 ∷ 0 ∷ 0 ∷ 0 ∷ 0 ∷ 0 ∷ 87 ∷ 90 ∷ 91 ∷ 94 ∷ []) ∷ (30 ∷ 211 ∷ 214 ∷ 0 ∷ 0 ∷ 0 ∷ 0 ∷ 0 ∷ 2 ∷ []) ∷ [])) 6 gives leaves_bytes (answer 3 2 0) (flags_from 0 6)
    -- pack: out of range, op 7
    ∷ to_pack (nodes ((14 ∷ 99 ∷ 0 ∷ 0 ∷ 0 ∷ 0 ∷ 0 ∷ 0 ∷ 0 ∷ 115 ∷ 118 ∷ 119 ∷ 122 ∷ 123 ∷ 18446744073709551614 ∷ 127 ∷ 130 ∷ []) ∷ [])) 46 gives leaves_bytes (answer 25 0 0) (flags_from 0 46)
    -- pack: word 10 unused, op 23
    ∷ to_pack (nodes ((10 ∷ 71 ∷ 0 ∷ 0 ∷ 0 ∷ 0 ∷ 0 ∷ 0 ∷ 0 ∷ 87 ∷ 90 ∷ 91 ∷ 94 ∷ []) ∷ (10 ∷ 71 ∷ 0 ∷ 0 ∷ 0 ∷ 0 ∷ 0 ∷ 0 ∷ 0 ∷ 87 ∷ 90 ∷ 91 ∷ 94 ∷ []) ∷ (46 ∷ 323 ∷ 326 ∷ 327 ∷ 0 ∷ 331 ∷ 0 ∷ 0 ∷ 0 ∷ 0 ∷ 18446744073709551615 ∷ []) ∷ [])) 6 gives leaves_bytes (answer 3 2 0) (flags_from 0 6)
    -- pack: word 13 unused, op 19
    ∷ to_pack (nodes ((38 ∷ 267 ∷ 0 ∷ 0 ∷ 0 ∷ 275 ∷ 0 ∷ 0 ∷ 0 ∷ 283 ∷ 286 ∷ 287 ∷ 290 ∷ 2 ∷ []) ∷ [])) 6 gives leaves_bytes (answer 3 0 0) (flags_from 0 6)
    -- pack: out of range, op 12
    ∷ to_pack (nodes ((2 ∷ 0 ∷ 0 ∷ 0 ∷ 22 ∷ 23 ∷ 26 ∷ 27 ∷ 30 ∷ 31 ∷ 34 ∷ 35 ∷ 38 ∷ []) ∷ (24 ∷ 169 ∷ 34359738368 ∷ []) ∷ [])) 46 gives leaves_bytes (answer 25 1 0) (flags_from 0 46)
    -- pack: out of range, op 22
    ∷ to_pack (nodes ((44 ∷ 34359738369 ∷ []) ∷ [])) 46 gives leaves_bytes (answer 25 0 0) (flags_from 0 46)
    -- pack: word 10 unused, op 18
    ∷ to_pack (nodes ((36 ∷ 253 ∷ 256 ∷ 257 ∷ 0 ∷ 0 ∷ 0 ∷ 0 ∷ 0 ∷ 0 ∷ 68719476736 ∷ []) ∷ [])) 6 gives leaves_bytes (answer 3 0 0) (flags_from 0 6)
    -- pack: word 6 unused, op 14
    ∷ to_pack (nodes ((28 ∷ 197 ∷ 200 ∷ 0 ∷ 0 ∷ 0 ∷ 18446744073709551614 ∷ []) ∷ [])) 6 gives leaves_bytes (answer 3 0 0) (flags_from 0 6)
    -- pack: word 6 unused, op 6
    ∷ to_pack (nodes ((8 ∷ 57 ∷ 0 ∷ 0 ∷ 0 ∷ 0 ∷ 0 ∷ 0 ∷ 0 ∷ 73 ∷ 76 ∷ 77 ∷ 80 ∷ []) ∷ (12 ∷ 85 ∷ 0 ∷ 0 ∷ 0 ∷ 0 ∷ 2 ∷ 0 ∷ 0 ∷ 101 ∷ 104 ∷ 105 ∷ 108 ∷ 109 ∷ 112 ∷ 113 ∷ 116 ∷ []) ∷ [])) 6 gives leaves_bytes (answer 3 1 0) (flags_from 0 6)
    -- pack: out of range, op 7
    ∷ to_pack (nodes ((8 ∷ 57 ∷ 0 ∷ 0 ∷ 0 ∷ 0 ∷ 0 ∷ 0 ∷ 0 ∷ 73 ∷ 76 ∷ 77 ∷ 80 ∷ []) ∷ (14 ∷ 99 ∷ 0 ∷ 0 ∷ 0 ∷ 0 ∷ 0 ∷ 0 ∷ 0 ∷ 115 ∷ 118 ∷ 119 ∷ 34359738368 ∷ 123 ∷ 126 ∷ 127 ∷ 130 ∷ []) ∷ [])) 46 gives leaves_bytes (answer 25 1 0) (flags_from 0 46)
    -- pack: rule 4 is not asked
    ∷ to_pack (nodes ((2 ∷ 0 ∷ 0 ∷ 0 ∷ 6 ∷ 0 ∷ 2 ∷ 2 ∷ 2 ∷ 4 ∷ 6 ∷ []) ∷ (12 ∷ 2 ∷ 0 ∷ 0 ∷ 0 ∷ 0 ∷ 0 ∷ 0 ∷ 0 ∷ 6 ∷ 10 ∷ 0 ∷ 0 ∷ 2 ∷ 4 ∷ []) ∷ [])) 23 gives leaves_bytes (answer 0 0 21) ((2 ∷ 1 ∷ 6 ∷ 0 ∷ 2 ∷ 2 ∷ 2 ∷ 4 ∷ 6 ∷ 0 ∷ 0 ∷ 6 ∷ 2 ∷ 6 ∷ 10 ∷ 0 ∷ 0 ∷ 2 ∷ 4 ∷ 0 ∷ 0 ∷ []) ++ flags_from 21 2)
    -- pack: random
    ∷ to_pack (nodes ((20 ∷ 88 ∷ 2651766 ∷ []) ∷ (26 ∷ 909897 ∷ 6 ∷ []) ∷ (2 ∷ 0 ∷ 0 ∷ 0 ∷ 11398117934 ∷ 526 ∷ 17 ∷ 2603 ∷ 1 ∷ 510 ∷ 79916757 ∷ 2477684825 ∷ 3222891 ∷ []) ∷ (28 ∷ 2630 ∷ 314959 ∷ []) ∷ (34 ∷ 182269 ∷ 238883533 ∷ []) ∷ [])) 52 gives leaves_bytes (answer 14 0 0) (flags_from 0 52)
    -- pack: out of range, op 16
    ∷ to_pack (nodes ((32 ∷ 225 ∷ 18446744073709551614 ∷ []) ∷ [])) 46 gives leaves_bytes (answer 25 0 0) (flags_from 0 46)
    -- pack: word 15 unused, op 20
    ∷ to_pack (nodes ((40 ∷ 281 ∷ 0 ∷ 0 ∷ 0 ∷ 0 ∷ 292 ∷ 0 ∷ 0 ∷ 0 ∷ 0 ∷ 0 ∷ 0 ∷ 0 ∷ 0 ∷ 18446744073709551614 ∷ []) ∷ [])) 6 gives leaves_bytes (answer 3 0 0) (flags_from 0 6)
    -- pack: out of range, op 6
    ∷ to_pack (nodes ((12 ∷ 34359738369 ∷ 0 ∷ 0 ∷ 0 ∷ 0 ∷ 0 ∷ 0 ∷ 0 ∷ 101 ∷ 104 ∷ 105 ∷ 108 ∷ 109 ∷ 112 ∷ 113 ∷ 116 ∷ []) ∷ [])) 46 gives leaves_bytes (answer 25 0 0) (flags_from 0 46)
    -- pack: random
    ∷ to_pack (nodes ((42 ∷ 8154605198 ∷ 7277951397 ∷ 0 ∷ 0 ∷ 0 ∷ 18446744073709551615 ∷ []) ∷ [])) 6 gives leaves_bytes (answer 3 0 0) (flags_from 0 6)
    ∷ []

pub packs09_agrees : Agree packs09
unfolding everything
packs09_agrees = refl
