-- Written by tests/model/tables.py: change that script or cases.py, never this file.
use mathlib.Core.Path.{refl}
use mathlib.Core.List.{List, [], ◌∷◌, ◌++◌}
use Rattle.guarantees.proofs.Everything.{everything}
use Rattle.agreement.specs.Cases.{nodes, fresh_from, to_unpack, to_unpack_check, leaves, number, answer, Case, ◌gives◌, Agree}

abbrev pub table22 : List Case
table22 =
    -- fixed bytes
    to_unpack_check (1 ∷ 0 ∷ 4 ∷ 216 ∷ 4 ∷ []) gives number 1
    -- fixed bytes
    ∷ to_unpack (1 ∷ 149 ∷ 128 ∷ 1 ∷ []) 204 gives leaves (answer 24 1 0) (fresh_from 0 204)
    -- fixed bytes
    ∷ to_unpack (2 ∷ 0 ∷ 4 ∷ 10 ∷ 21 ∷ 128 ∷ 128 ∷ []) 0 gives leaves (answer 14 0 0) []
    -- fixed bytes
    ∷ to_unpack_check (1 ∷ 0 ∷ 128 ∷ 128 ∷ 128 ∷ 128 ∷ []) gives number 1310722
    -- fixed bytes
    ∷ to_unpack (1 ∷ 0 ∷ 128 ∷ 128 ∷ 128 ∷ 128 ∷ 128 ∷ []) 17 gives leaves (answer 21 2 0) (fresh_from 0 17)
    -- fixed bytes
    ∷ to_unpack (1 ∷ 128 ∷ 0 ∷ []) 204 gives leaves (answer 21 1 0) (fresh_from 0 204)
    -- fixed bytes
    ∷ to_unpack_check (0 ∷ 130 ∷ 0 ∷ []) gives number 1507328
    -- fixed bytes
    ∷ to_unpack (2 ∷ 0 ∷ 4 ∷ 10 ∷ 128 ∷ 0 ∷ []) 204 gives leaves (answer 21 4 0) (fresh_from 0 204)
    -- fixed bytes
    ∷ to_unpack (2 ∷ 0 ∷ 4 ∷ 10 ∷ 1 ∷ 0 ∷ []) 16 gives leaves (answer 14 0 0) (fresh_from 0 16)
    -- fixed bytes
    ∷ to_unpack (129 ∷ 2 ∷ 255 ∷ 255 ∷ 255 ∷ 255 ∷ 255 ∷ []) 204 gives leaves (answer 23 0 0) (fresh_from 0 204)
    -- fixed bytes
    ∷ to_unpack (129 ∷ 128 ∷ 0 ∷ []) 204 gives leaves (answer 21 0 0) (fresh_from 0 204)
    -- cut at 1
    ∷ to_unpack (3 ∷ []) 204 gives leaves (answer 20 1 0) (fresh_from 0 204)
    -- cut at 2
    ∷ to_unpack (3 ∷ 1 ∷ []) 204 gives leaves (answer 20 2 0) (fresh_from 0 204)
    -- cut at 3
    ∷ to_unpack (3 ∷ 1 ∷ 6 ∷ []) 16 gives leaves (answer 14 0 0) (fresh_from 0 16)
    -- cut at 4
    ∷ to_unpack_check (3 ∷ 1 ∷ 6 ∷ 0 ∷ []) gives number 1310724
    -- cut at 5
    ∷ to_unpack (3 ∷ 1 ∷ 6 ∷ 0 ∷ 2 ∷ []) 204 gives leaves (answer 20 5 0) (fresh_from 0 204)
    -- cut at 6
    ∷ to_unpack_check (3 ∷ 1 ∷ 6 ∷ 0 ∷ 2 ∷ 0 ∷ []) gives number 1310726
    -- cut at 7
    ∷ to_unpack (3 ∷ 1 ∷ 6 ∷ 0 ∷ 2 ∷ 0 ∷ 2 ∷ []) 204 gives leaves (answer 20 7 0) (fresh_from 0 204)
    -- cut at 8
    ∷ to_unpack (3 ∷ 1 ∷ 6 ∷ 0 ∷ 2 ∷ 0 ∷ 2 ∷ 4 ∷ []) 204 gives leaves (answer 20 8 0) (fresh_from 0 204)
    -- cut at 9
    ∷ to_unpack_check (3 ∷ 1 ∷ 6 ∷ 0 ∷ 2 ∷ 0 ∷ 2 ∷ 4 ∷ 216 ∷ []) gives number 1310728
    -- cut at 10
    ∷ to_unpack (3 ∷ 1 ∷ 6 ∷ 0 ∷ 2 ∷ 0 ∷ 2 ∷ 4 ∷ 216 ∷ 4 ∷ []) 204 gives leaves (answer 20 10 0) (fresh_from 0 204)
    -- cut at 11
    ∷ to_unpack (3 ∷ 1 ∷ 6 ∷ 0 ∷ 2 ∷ 0 ∷ 2 ∷ 4 ∷ 216 ∷ 4 ∷ 0 ∷ []) 0 gives leaves (answer 14 0 0) []
    -- cut at 12
    ∷ to_unpack (3 ∷ 1 ∷ 6 ∷ 0 ∷ 2 ∷ 0 ∷ 2 ∷ 4 ∷ 216 ∷ 4 ∷ 0 ∷ 0 ∷ []) 204 gives leaves (answer 20 12 0) (fresh_from 0 204)
    -- cut at 13
    ∷ to_unpack_check (3 ∷ 1 ∷ 6 ∷ 0 ∷ 2 ∷ 0 ∷ 2 ∷ 4 ∷ 216 ∷ 4 ∷ 0 ∷ 0 ∷ 3 ∷ []) gives number 1310733
    -- cut at 14
    ∷ to_unpack (3 ∷ 1 ∷ 6 ∷ 0 ∷ 2 ∷ 0 ∷ 2 ∷ 4 ∷ 216 ∷ 4 ∷ 0 ∷ 0 ∷ 3 ∷ 0 ∷ []) 204 gives leaves (answer 20 14 0) (fresh_from 0 204)
    -- cut at 15
    ∷ to_unpack (3 ∷ 1 ∷ 6 ∷ 0 ∷ 2 ∷ 0 ∷ 2 ∷ 4 ∷ 216 ∷ 4 ∷ 0 ∷ 0 ∷ 3 ∷ 0 ∷ 2 ∷ []) 204 gives leaves (answer 20 15 0) (fresh_from 0 204)
    -- cut at 16
    ∷ to_unpack_check (3 ∷ 1 ∷ 6 ∷ 0 ∷ 2 ∷ 0 ∷ 2 ∷ 4 ∷ 216 ∷ 4 ∷ 0 ∷ 0 ∷ 3 ∷ 0 ∷ 2 ∷ 2 ∷ []) gives number 1310736
    -- cut at 17
    ∷ to_unpack_check (3 ∷ 1 ∷ 6 ∷ 0 ∷ 2 ∷ 0 ∷ 2 ∷ 4 ∷ 216 ∷ 4 ∷ 0 ∷ 0 ∷ 3 ∷ 0 ∷ 2 ∷ 2 ∷ 0 ∷ []) gives number 1310737
    -- cut at 18
    ∷ to_unpack (3 ∷ 1 ∷ 6 ∷ 0 ∷ 2 ∷ 0 ∷ 2 ∷ 4 ∷ 216 ∷ 4 ∷ 0 ∷ 0 ∷ 3 ∷ 0 ∷ 2 ∷ 2 ∷ 0 ∷ 0 ∷ []) 0 gives leaves (answer 14 0 0) []
    -- cut at 19
    ∷ to_unpack (3 ∷ 1 ∷ 6 ∷ 0 ∷ 2 ∷ 0 ∷ 2 ∷ 4 ∷ 216 ∷ 4 ∷ 0 ∷ 0 ∷ 3 ∷ 0 ∷ 2 ∷ 2 ∷ 0 ∷ 0 ∷ 0 ∷ []) 204 gives leaves (answer 20 19 0) (fresh_from 0 204)
    -- cut at 20
    ∷ to_unpack (3 ∷ 1 ∷ 6 ∷ 0 ∷ 2 ∷ 0 ∷ 2 ∷ 4 ∷ 216 ∷ 4 ∷ 0 ∷ 0 ∷ 3 ∷ 0 ∷ 2 ∷ 2 ∷ 0 ∷ 0 ∷ 0 ∷ 4 ∷ []) 204 gives leaves (answer 20 20 0) (fresh_from 0 204)
    -- cut at 21
    ∷ to_unpack_check (3 ∷ 1 ∷ 6 ∷ 0 ∷ 2 ∷ 0 ∷ 2 ∷ 4 ∷ 216 ∷ 4 ∷ 0 ∷ 0 ∷ 3 ∷ 0 ∷ 2 ∷ 2 ∷ 0 ∷ 0 ∷ 0 ∷ 4 ∷ 215 ∷ []) gives number 1310740
    -- cut at 22
    ∷ to_unpack (3 ∷ 1 ∷ 6 ∷ 0 ∷ 2 ∷ 0 ∷ 2 ∷ 4 ∷ 216 ∷ 4 ∷ 0 ∷ 0 ∷ 3 ∷ 0 ∷ 2 ∷ 2 ∷ 0 ∷ 0 ∷ 0 ∷ 4 ∷ 215 ∷ 4 ∷ []) 0 gives leaves (answer 14 0 0) []
    -- whole
    ∷ to_unpack (5 ∷ 1 ∷ 0 ∷ 0 ∷ 2 ∷ 2 ∷ 2 ∷ 4 ∷ 0 ∷ 0 ∷ 0 ∷ 1 ∷ 6 ∷ 2 ∷ 2 ∷ 9 ∷ 3 ∷ 4 ∷ 0 ∷ 0 ∷ 0 ∷ 1 ∷ 6 ∷ 4 ∷ 2 ∷ 7 ∷ 20 ∷ 4 ∷ 0 ∷ 0 ∷ 0 ∷ 7 ∷ 0 ∷ 2 ∷ 0 ∷ 0 ∷ 0 ∷ 2 ∷ 0 ∷ 0 ∷ 0 ∷ 1 ∷ 0 ∷ 6 ∷ 2 ∷ 2 ∷ 2 ∷ 4 ∷ 0 ∷ 0 ∷ 0 ∷ []) 204 gives leaves (answer 0 0 5) (nodes ((2 ∷ 0 ∷ 0 ∷ 0 ∷ 0 ∷ 0 ∷ 2 ∷ 2 ∷ 2 ∷ 4 ∷ []) ∷ (2 ∷ 0 ∷ 0 ∷ 0 ∷ 6 ∷ 2 ∷ 2 ∷ 9 ∷ 3 ∷ 4 ∷ []) ∷ (2 ∷ 0 ∷ 0 ∷ 0 ∷ 6 ∷ 4 ∷ 2 ∷ 7 ∷ 20 ∷ 4 ∷ []) ∷ (14 ∷ 0 ∷ 0 ∷ 0 ∷ 0 ∷ 0 ∷ 0 ∷ 0 ∷ 0 ∷ 2 ∷ 0 ∷ 0 ∷ 0 ∷ 2 ∷ []) ∷ (2 ∷ 0 ∷ 0 ∷ 0 ∷ 0 ∷ 6 ∷ 2 ∷ 2 ∷ 2 ∷ 4 ∷ []) ∷ []) ++ fresh_from 85 119)
    -- cut
    ∷ to_unpack (5 ∷ 1 ∷ 0 ∷ 0 ∷ 2 ∷ 2 ∷ 2 ∷ 4 ∷ 0 ∷ 0 ∷ 0 ∷ 1 ∷ 6 ∷ 2 ∷ 2 ∷ 9 ∷ 3 ∷ 4 ∷ 0 ∷ 0 ∷ 0 ∷ 1 ∷ 6 ∷ 4 ∷ 2 ∷ 7 ∷ 20 ∷ 4 ∷ 0 ∷ 0 ∷ 0 ∷ 7 ∷ 0 ∷ 2 ∷ 0 ∷ 0 ∷ 0 ∷ 2 ∷ 0 ∷ []) 204 gives leaves (answer 20 39 0) (fresh_from 0 204)
    -- bytes appended
    ∷ to_unpack_check (5 ∷ 1 ∷ 0 ∷ 0 ∷ 2 ∷ 2 ∷ 2 ∷ 4 ∷ 0 ∷ 0 ∷ 0 ∷ 1 ∷ 6 ∷ 2 ∷ 2 ∷ 9 ∷ 3 ∷ 4 ∷ 0 ∷ 0 ∷ 0 ∷ 1 ∷ 6 ∷ 4 ∷ 2 ∷ 7 ∷ 20 ∷ 4 ∷ 0 ∷ 0 ∷ 0 ∷ 7 ∷ 0 ∷ 2 ∷ 0 ∷ 0 ∷ 0 ∷ 2 ∷ 0 ∷ 0 ∷ 0 ∷ 1 ∷ 0 ∷ 6 ∷ 2 ∷ 2 ∷ 2 ∷ 4 ∷ 0 ∷ 0 ∷ 0 ∷ 0 ∷ 1 ∷ []) gives number 1441843
    -- one number spoilt
    ∷ to_unpack_check (5 ∷ 1 ∷ 0 ∷ 0 ∷ 2 ∷ 2 ∷ 2 ∷ 4 ∷ 0 ∷ 0 ∷ 0 ∷ 1 ∷ 6 ∷ 2 ∷ 2 ∷ 9 ∷ 3 ∷ 4 ∷ 0 ∷ 0 ∷ 0 ∷ 1 ∷ 6 ∷ 4 ∷ 2 ∷ 7 ∷ 20 ∷ 4 ∷ 0 ∷ 0 ∷ 0 ∷ 7 ∷ 0 ∷ 2 ∷ 254 ∷ 255 ∷ 255 ∷ 255 ∷ 127 ∷ 0 ∷ 0 ∷ 2 ∷ 0 ∷ 0 ∷ 0 ∷ 1 ∷ 0 ∷ 6 ∷ 2 ∷ 2 ∷ 2 ∷ 4 ∷ 0 ∷ 0 ∷ 0 ∷ []) gives number 458755
    -- one number spoilt
    ∷ to_unpack (5 ∷ 1 ∷ 0 ∷ 0 ∷ 2 ∷ 2 ∷ 2 ∷ 4 ∷ 0 ∷ 0 ∷ 0 ∷ 1 ∷ 6 ∷ 2 ∷ 2 ∷ 9 ∷ 3 ∷ 4 ∷ 0 ∷ 0 ∷ 0 ∷ 1 ∷ 6 ∷ 4 ∷ 2 ∷ 7 ∷ 20 ∷ 4 ∷ 0 ∷ 0 ∷ 0 ∷ 7 ∷ 0 ∷ 254 ∷ 255 ∷ 255 ∷ 255 ∷ 127 ∷ []) 204 gives leaves (answer 20 38 0) (fresh_from 0 204)
    -- one number spoilt
    ∷ to_unpack_check (5 ∷ 1 ∷ 0 ∷ 0 ∷ 2 ∷ 2 ∷ 2 ∷ 4 ∷ 0 ∷ 0 ∷ 0 ∷ 1 ∷ 6 ∷ 2 ∷ 2 ∷ 9 ∷ 24 ∷ 4 ∷ 0 ∷ 0 ∷ 0 ∷ 1 ∷ 6 ∷ 4 ∷ 2 ∷ 7 ∷ 20 ∷ 4 ∷ 0 ∷ 0 ∷ 0 ∷ 7 ∷ 0 ∷ 2 ∷ 0 ∷ 0 ∷ 0 ∷ 2 ∷ 0 ∷ 0 ∷ 0 ∷ 1 ∷ 0 ∷ 6 ∷ 2 ∷ 2 ∷ 2 ∷ 4 ∷ 0 ∷ 0 ∷ 0 ∷ []) gives number 5
    -- random
    ∷ to_unpack_check (5 ∷ 132 ∷ 84 ∷ 210 ∷ []) gives number 1572865
    -- edge word
    ∷ to_unpack (5 ∷ 1 ∷ 0 ∷ 0 ∷ 2 ∷ 2 ∷ 2 ∷ 4 ∷ 0 ∷ 0 ∷ 0 ∷ 1 ∷ 6 ∷ 2 ∷ 2 ∷ 9 ∷ 3 ∷ 4 ∷ 0 ∷ 0 ∷ 0 ∷ 1 ∷ 6 ∷ 4 ∷ 2 ∷ 7 ∷ 20 ∷ 252 ∷ 3 ∷ 0 ∷ 0 ∷ 0 ∷ 7 ∷ 0 ∷ 2 ∷ 0 ∷ 0 ∷ 0 ∷ 2 ∷ 0 ∷ 0 ∷ 0 ∷ 1 ∷ 0 ∷ 6 ∷ 2 ∷ 2 ∷ 2 ∷ 4 ∷ 0 ∷ 0 ∷ 0 ∷ []) 204 gives leaves (answer 0 0 5) (nodes ((2 ∷ 0 ∷ 0 ∷ 0 ∷ 0 ∷ 0 ∷ 2 ∷ 2 ∷ 2 ∷ 4 ∷ []) ∷ (2 ∷ 0 ∷ 0 ∷ 0 ∷ 6 ∷ 2 ∷ 2 ∷ 9 ∷ 3 ∷ 4 ∷ []) ∷ (2 ∷ 0 ∷ 0 ∷ 0 ∷ 6 ∷ 4 ∷ 2 ∷ 7 ∷ 20 ∷ 508 ∷ []) ∷ (14 ∷ 0 ∷ 0 ∷ 0 ∷ 0 ∷ 0 ∷ 0 ∷ 0 ∷ 0 ∷ 2 ∷ 0 ∷ 0 ∷ 0 ∷ 2 ∷ []) ∷ (2 ∷ 0 ∷ 0 ∷ 0 ∷ 0 ∷ 6 ∷ 2 ∷ 2 ∷ 2 ∷ 4 ∷ []) ∷ []) ++ fresh_from 85 119)
    -- whole
    ∷ to_unpack_check (6 ∷ 1 ∷ 4 ∷ 0 ∷ 2 ∷ 0 ∷ 10 ∷ 4 ∷ 2 ∷ 0 ∷ 0 ∷ 1 ∷ 4 ∷ 2 ∷ 2 ∷ 8 ∷ 18 ∷ 2 ∷ 4 ∷ 4 ∷ 2 ∷ 1 ∷ 4 ∷ 4 ∷ 2 ∷ 1 ∷ 0 ∷ 0 ∷ 0 ∷ 0 ∷ 0 ∷ 9 ∷ 4 ∷ 4 ∷ 15 ∷ 0 ∷ 0 ∷ 1 ∷ 0 ∷ 6 ∷ 2 ∷ 2 ∷ 2 ∷ 2 ∷ 4 ∷ 2 ∷ 2 ∷ []) gives number 6
    -- cut
    ∷ to_unpack (6 ∷ 1 ∷ 4 ∷ 0 ∷ 2 ∷ 0 ∷ 10 ∷ 4 ∷ 2 ∷ 0 ∷ 0 ∷ 1 ∷ 4 ∷ 2 ∷ 2 ∷ 8 ∷ 18 ∷ 2 ∷ 4 ∷ []) 204 gives leaves (answer 20 19 0) (fresh_from 0 204)
    -- bytes appended
    ∷ to_unpack (6 ∷ 1 ∷ 4 ∷ 0 ∷ 2 ∷ 0 ∷ 10 ∷ 4 ∷ 2 ∷ 0 ∷ 0 ∷ 1 ∷ 4 ∷ 2 ∷ 2 ∷ 8 ∷ 18 ∷ 2 ∷ 4 ∷ 4 ∷ 2 ∷ 1 ∷ 4 ∷ 4 ∷ 2 ∷ 1 ∷ 0 ∷ 0 ∷ 0 ∷ 0 ∷ 0 ∷ 9 ∷ 4 ∷ 4 ∷ 15 ∷ 0 ∷ 0 ∷ 1 ∷ 0 ∷ 6 ∷ 2 ∷ 2 ∷ 2 ∷ 2 ∷ 4 ∷ 2 ∷ 2 ∷ 0 ∷ 0 ∷ 0 ∷ []) 17 gives leaves (answer 14 0 0) (fresh_from 0 17)
    -- one number spoilt
    ∷ to_unpack (6 ∷ 1 ∷ 4 ∷ 0 ∷ 2 ∷ 0 ∷ 149 ∷ 1 ∷ []) 204 gives leaves (answer 20 8 0) (fresh_from 0 204)
    -- one number spoilt
    ∷ to_unpack (6 ∷ 1 ∷ 4 ∷ 0 ∷ 2 ∷ 0 ∷ 10 ∷ 4 ∷ 130 ∷ 0 ∷ 0 ∷ 0 ∷ 1 ∷ 4 ∷ 2 ∷ 2 ∷ 8 ∷ 18 ∷ 2 ∷ 4 ∷ 4 ∷ 2 ∷ 1 ∷ 4 ∷ 4 ∷ 2 ∷ 1 ∷ 0 ∷ 0 ∷ 0 ∷ 0 ∷ 0 ∷ 9 ∷ 4 ∷ 4 ∷ 15 ∷ 0 ∷ 0 ∷ 1 ∷ 0 ∷ 6 ∷ 2 ∷ 2 ∷ 2 ∷ 2 ∷ 4 ∷ 2 ∷ 2 ∷ []) 204 gives leaves (answer 21 8 0) (fresh_from 0 204)
    -- one number spoilt
    ∷ to_unpack (6 ∷ 1 ∷ 4 ∷ 0 ∷ 2 ∷ 0 ∷ 10 ∷ 4 ∷ 2 ∷ 0 ∷ 0 ∷ 1 ∷ 4 ∷ 127 ∷ []) 204 gives leaves (answer 20 14 0) (fresh_from 0 204)
    -- random
    ∷ to_unpack (2 ∷ 102 ∷ 74 ∷ 43 ∷ 201 ∷ 55 ∷ 8 ∷ []) 204 gives leaves (answer 24 1 0) (fresh_from 0 204)
    -- edge word
    ∷ to_unpack (6 ∷ 1 ∷ 4 ∷ 0 ∷ 2 ∷ 0 ∷ 10 ∷ 4 ∷ 2 ∷ 0 ∷ 0 ∷ 1 ∷ 4 ∷ 2 ∷ 2 ∷ 252 ∷ 255 ∷ 255 ∷ 255 ∷ 15 ∷ 18 ∷ 2 ∷ 4 ∷ 4 ∷ 2 ∷ 1 ∷ 4 ∷ 4 ∷ 2 ∷ 1 ∷ 0 ∷ 0 ∷ 0 ∷ 0 ∷ 0 ∷ 9 ∷ 4 ∷ 4 ∷ 15 ∷ 0 ∷ 0 ∷ 1 ∷ 0 ∷ 6 ∷ 2 ∷ 2 ∷ 2 ∷ 2 ∷ 4 ∷ 2 ∷ 2 ∷ []) 204 gives leaves (answer 0 0 6) (nodes ((2 ∷ 0 ∷ 0 ∷ 0 ∷ 4 ∷ 0 ∷ 2 ∷ 0 ∷ 10 ∷ 4 ∷ 2 ∷ []) ∷ (2 ∷ 0 ∷ 0 ∷ 0 ∷ 4 ∷ 2 ∷ 2 ∷ 4294967292 ∷ 18 ∷ 2 ∷ 4 ∷ 4 ∷ 2 ∷ []) ∷ (2 ∷ 0 ∷ 0 ∷ 0 ∷ 4 ∷ 4 ∷ 2 ∷ 1 ∷ []) ∷ (18 ∷ 4 ∷ 4 ∷ []) ∷ (30 ∷ []) ∷ (2 ∷ 0 ∷ 0 ∷ 0 ∷ 0 ∷ 6 ∷ 2 ∷ 2 ∷ 2 ∷ 2 ∷ 4 ∷ 2 ∷ 2 ∷ []) ∷ []) ++ fresh_from 102 102)
    -- whole
    ∷ to_unpack (0 ∷ 2 ∷ 8 ∷ 1 ∷ 2 ∷ 0 ∷ 2 ∷ 8 ∷ 18 ∷ 0 ∷ 0 ∷ 0 ∷ 0 ∷ 1 ∷ 2 ∷ 2 ∷ 2 ∷ 2 ∷ 2 ∷ 0 ∷ 0 ∷ 0 ∷ 0 ∷ 1 ∷ 4 ∷ 4 ∷ 14 ∷ 9 ∷ 3 ∷ 0 ∷ 0 ∷ 0 ∷ 0 ∷ 2 ∷ 0 ∷ 0 ∷ 0 ∷ 0 ∷ 0 ∷ 3 ∷ 4 ∷ 0 ∷ 0 ∷ 0 ∷ 0 ∷ 13 ∷ 4 ∷ 8 ∷ 9 ∷ 6 ∷ 2 ∷ 21 ∷ 2 ∷ 12 ∷ []) 204 gives leaves (answer 0 0 8) (nodes ((2 ∷ 0 ∷ 0 ∷ 0 ∷ 2 ∷ 0 ∷ 2 ∷ 8 ∷ 18 ∷ []) ∷ (2 ∷ 0 ∷ 0 ∷ 0 ∷ 2 ∷ 2 ∷ 2 ∷ 2 ∷ 2 ∷ []) ∷ (2 ∷ 0 ∷ 0 ∷ 0 ∷ 4 ∷ 4 ∷ 14 ∷ 9 ∷ 3 ∷ []) ∷ (4 ∷ []) ∷ (6 ∷ 4 ∷ []) ∷ (26 ∷ 4 ∷ 8 ∷ []) ∷ (18 ∷ 6 ∷ 2 ∷ []) ∷ (42 ∷ 2 ∷ 12 ∷ []) ∷ []) ++ fresh_from 136 68)
    ∷ []

pub table22_agrees : Agree table22
unfolding everything
table22_agrees = refl
