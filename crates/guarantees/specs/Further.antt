-- Examples beyond the paper's marked ones. Each, turned, is a wrong definition that the laws alone would let pass.
use Rattle.std.specs.Prelude.{◌≡◌, List, [], ◌∷◌, ◌++◌, map, pos, negsuc}
use Rattle.plan.specs.Operations.{PERMUTE, FLIP, RESHAPE, EXPAND, PAD, SHRINK, ADD, MUL, IDIV, MOD, CMPLT, CMPNE, AND, OR, FILL, KNOWN}
use Rattle.cells.specs.Cells.{known, gap}
use Rattle.guarantees.specs.Questions.{i16, i32, zeros, param_on, param, constant, movement, binary, choice, reduce, cast, load, stack, bounds_of, room_of, cells_of, cells_in, origin_of, table_of, number_of, text_of, bounds, cells, origin, no_origin, table, number, text, fits, refusal, reply, Example, ◌says◌}

abbrev pub further : List Example
further =
    -- PERMUTE (1,2,0) of 2x3x4: element 1 is source element 12
    origin_of (param 0 i16 (negsuc 8) (pos 9) (2 ∷ 3 ∷ 4 ∷ []) ++ movement PERMUTE 0 (1 ∷ 2 ∷ 0 ∷ []) []) 1 1 says origin 0 12
    -- ADD of 2x3 and 3
    ∷ cells_of (param 0 i16 (negsuc 8) (pos 9) (2 ∷ 3 ∷ []) ++ param 1 i16 (negsuc 8) (pos 9) (3 ∷ []) ++ binary ADD 0 1) (pos 1 ∷ pos 2 ∷ pos 3 ∷ pos 4 ∷ pos 5 ∷ pos 6 ∷ pos 7 ∷ pos 8 ∷ pos 9 ∷ []) (1 ∷ 1 ∷ 1 ∷ 1 ∷ 1 ∷ 0 ∷ 1 ∷ 1 ∷ 1 ∷ []) says cells (known (pos 8) ∷ known (pos 10) ∷ known (pos 12) ∷ known (pos 11) ∷ known (pos 13) ∷ gap ∷ [])
    -- PAD, SHRINK and FLIP at rank 2
    ∷ cells_of (param 0 i16 (negsuc 8) (pos 9) (1 ∷ 2 ∷ []) ++ movement PAD 0 (2 ∷ 3 ∷ []) (1 ∷ 0 ∷ [])) (pos 7 ∷ pos 8 ∷ []) (1 ∷ 1 ∷ []) says cells (gap ∷ gap ∷ gap ∷ known (pos 7) ∷ known (pos 8) ∷ gap ∷ [])
    ∷ cells_of (param 0 i16 (negsuc 8) (pos 9) (2 ∷ 3 ∷ []) ++ movement SHRINK 0 (1 ∷ 2 ∷ []) (1 ∷ 1 ∷ [])) (pos 1 ∷ pos 2 ∷ pos 3 ∷ pos 4 ∷ pos 5 ∷ pos 6 ∷ []) (1 ∷ 1 ∷ 1 ∷ 1 ∷ 1 ∷ 1 ∷ []) says cells (known (pos 5) ∷ known (pos 6) ∷ [])
    ∷ cells_of (param 0 i16 (negsuc 8) (pos 9) (2 ∷ 3 ∷ []) ++ movement FLIP 0 (0 ∷ 1 ∷ []) []) (pos 1 ∷ pos 2 ∷ pos 3 ∷ pos 4 ∷ pos 5 ∷ pos 6 ∷ []) (1 ∷ 1 ∷ 1 ∷ 1 ∷ 1 ∷ 1 ∷ []) says cells (known (pos 3) ∷ known (pos 2) ∷ known (pos 1) ∷ known (pos 6) ∷ known (pos 5) ∷ known (pos 4) ∷ [])
    ∷ origin_of (param 0 i16 (negsuc 8) (pos 9) (1 ∷ 2 ∷ []) ++ movement PAD 0 (2 ∷ 3 ∷ []) (1 ∷ 0 ∷ [])) 1 4 says origin 0 1
    ∷ origin_of (param 0 i16 (negsuc 8) (pos 9) (1 ∷ 2 ∷ []) ++ movement PAD 0 (2 ∷ 3 ∷ []) (1 ∷ 0 ∷ [])) 1 5 says no_origin
    -- EXPAND and RESHAPE
    ∷ cells_of (param 0 i16 (negsuc 8) (pos 9) (2 ∷ 1 ∷ []) ++ movement EXPAND 0 (2 ∷ 2 ∷ []) []) (pos 1 ∷ pos 2 ∷ []) (1 ∷ 1 ∷ []) says cells (known (pos 1) ∷ known (pos 1) ∷ known (pos 2) ∷ known (pos 2) ∷ [])
    ∷ cells_of (param 0 i16 (negsuc 8) (pos 9) (2 ∷ 2 ∷ []) ++ movement RESHAPE 0 (4 ∷ []) []) (pos 1 ∷ pos 2 ∷ pos 3 ∷ pos 4 ∷ []) (1 ∷ 0 ∷ 1 ∷ 1 ∷ []) says cells (known (pos 1) ∷ gap ∷ known (pos 3) ∷ known (pos 4) ∷ [])
    -- REDUCE over axis 0 of 2x3, over both, with no flag; max; a gap that is gathered
    ∷ cells_of (param 0 i16 (negsuc 8) (pos 9) (2 ∷ 3 ∷ []) ++ reduce 0 0 (1 ∷ [])) (pos 1 ∷ pos 2 ∷ pos 3 ∷ pos 4 ∷ pos 5 ∷ pos 6 ∷ []) (1 ∷ 1 ∷ 1 ∷ 1 ∷ 1 ∷ 1 ∷ []) says cells (known (pos 5) ∷ known (pos 7) ∷ known (pos 9) ∷ [])
    ∷ cells_of (param 0 i16 (negsuc 8) (pos 9) (2 ∷ 3 ∷ []) ++ reduce 0 0 (1 ∷ 1 ∷ [])) (pos 1 ∷ pos 2 ∷ pos 3 ∷ pos 4 ∷ pos 5 ∷ pos 6 ∷ []) (1 ∷ 1 ∷ 1 ∷ 1 ∷ 1 ∷ 1 ∷ []) says cells (known (pos 21) ∷ [])
    ∷ cells_of (param 0 i16 (negsuc 8) (pos 9) (2 ∷ 3 ∷ []) ++ reduce 0 0 []) (pos 1 ∷ pos 2 ∷ pos 3 ∷ pos 4 ∷ pos 5 ∷ pos 6 ∷ []) (1 ∷ 1 ∷ 1 ∷ 1 ∷ 1 ∷ 1 ∷ []) says cells (known (pos 1) ∷ known (pos 2) ∷ known (pos 3) ∷ known (pos 4) ∷ known (pos 5) ∷ known (pos 6) ∷ [])
    ∷ cells_of (param 0 i16 (negsuc 8) (pos 9) (2 ∷ 3 ∷ []) ++ reduce 0 1 (0 ∷ 1 ∷ [])) (pos 1 ∷ negsuc 1 ∷ pos 3 ∷ negsuc 3 ∷ negsuc 4 ∷ negsuc 5 ∷ []) (1 ∷ 1 ∷ 1 ∷ 1 ∷ 1 ∷ 1 ∷ []) says cells (known (pos 3) ∷ known (negsuc 3) ∷ [])
    ∷ cells_of (param 0 i16 (negsuc 8) (pos 9) (2 ∷ 3 ∷ []) ++ reduce 0 0 (0 ∷ 1 ∷ [])) (pos 1 ∷ pos 2 ∷ pos 3 ∷ pos 4 ∷ pos 5 ∷ pos 6 ∷ []) (1 ∷ 1 ∷ 1 ∷ 1 ∷ 0 ∷ 1 ∷ []) says cells (known (pos 6) ∷ gap ∷ [])
    -- WHERE with a gap condition, and with a gap on the side not chosen
    ∷ cells_of (param 0 0 (pos 0) (pos 1) (3 ∷ []) ++ param 1 i16 (negsuc 8) (pos 9) (3 ∷ []) ++ constant i16 (pos 5) ++ choice 0 1 2) (pos 1 ∷ pos 0 ∷ pos 1 ∷ pos 4 ∷ pos 4 ∷ pos 4 ∷ []) (0 ∷ 1 ∷ 1 ∷ 1 ∷ 0 ∷ 0 ∷ []) says cells (gap ∷ known (pos 5) ∷ gap ∷ [])
    -- AND of 0 and a gap, OR of 1 and a gap, MUL of 0 and a gap
    ∷ cells_of (constant 0 (pos 0) ++ param 0 0 (pos 0) (pos 1) (1 ∷ []) ++ binary AND 0 1) (pos 0 ∷ []) (0 ∷ []) says cells (gap ∷ [])
    ∷ cells_of (constant 0 (pos 1) ++ param 0 0 (pos 0) (pos 1) (1 ∷ []) ++ binary OR 0 1) (pos 0 ∷ []) (0 ∷ []) says cells (gap ∷ [])
    ∷ cells_of (constant i16 (pos 0) ++ param 0 i16 (pos 0) (pos 1) (1 ∷ []) ++ binary MUL 0 1) (pos 0 ∷ []) (0 ∷ []) says cells (gap ∷ [])
    -- CMPNE and CMPLT of numbers; MOD of −7 by 2 is 1; CAST and LOAD keep numbers
    ∷ cells_of (param 0 i16 (negsuc 8) (pos 9) (3 ∷ []) ++ constant i16 (pos 2) ++ binary CMPNE 0 1) (pos 1 ∷ pos 2 ∷ pos 3 ∷ []) (1 ∷ 1 ∷ 1 ∷ []) says cells (known (pos 1) ∷ known (pos 0) ∷ known (pos 1) ∷ [])
    ∷ cells_of (param 0 i16 (negsuc 8) (pos 9) (3 ∷ []) ++ constant i16 (pos 2) ++ binary CMPLT 0 1) (pos 1 ∷ pos 2 ∷ pos 3 ∷ []) (1 ∷ 1 ∷ 1 ∷ []) says cells (known (pos 1) ∷ known (pos 0) ∷ known (pos 0) ∷ [])
    ∷ cells_of (constant i16 (negsuc 6) ++ constant i16 (pos 2) ++ binary MOD 0 1) [] [] says cells (known (pos 1) ∷ [])
    ∷ cells_of (param 0 i16 (negsuc 8) (pos 9) (2 ∷ []) ++ cast 0 i32 ++ load 1 7) (negsuc 2 ∷ pos 4 ∷ []) (1 ∷ 1 ∷ []) says cells (known (negsuc 2) ∷ known (pos 4) ∷ [])
    -- Bounds are the printed formulas, not the tightest
    ∷ bounds_of (constant i16 (pos 3) ++ constant i16 (pos 5) ++ binary MOD 0 1) says bounds (pos 0) (pos 4)
    ∷ bounds_of (param 0 i16 (negsuc 8) (pos 9) (1 ∷ []) ++ binary CMPNE 0 0) says bounds (pos 0) (pos 1)
    ∷ bounds_of (constant 0 (pos 1) ++ constant i16 (pos 3) ++ constant i16 (pos 5) ++ choice 0 1 2) says bounds (pos 3) (pos 5)
    ∷ bounds_of (param 0 i16 (negsuc 2) (pos 2) (1 ∷ []) ++ param 1 i16 (negsuc 4) (pos 7) (1 ∷ []) ++ binary MUL 0 1) says bounds (negsuc 20) (pos 15)
    -- REDUCE of a bool with number 5: 6
    ∷ bounds_of (param 0 0 (pos 0) (pos 1) (2 ∷ []) ++ reduce 0 5 (1 ∷ [])) says refusal 6 1
    -- i32 least by [−1,0]: 10
    ∷ bounds_of (constant i32 (negsuc 2147483647) ++ param 0 i32 (negsuc 0) (pos 0) (1 ∷ []) ++ binary IDIV 0 1) says refusal 10 2
    -- PAD of rank 1 with A of rank 2: 8 or 7 by B
    ∷ bounds_of (param 0 i16 (negsuc 8) (pos 9) (2 ∷ []) ++ movement PAD 0 (5 ∷ 5 ∷ []) (1 ∷ [])) says refusal 8 1
    ∷ bounds_of (param 0 i16 (negsuc 8) (pos 9) (2 ∷ []) ++ movement PAD 0 (5 ∷ 5 ∷ []) (1 ∷ 1 ∷ [])) says refusal 7 1
    -- PAD with o + s equal to s': accepted; one more: 8
    ∷ bounds_of (param 0 i16 (negsuc 8) (pos 9) (2 ∷ []) ++ movement PAD 0 (5 ∷ []) (3 ∷ [])) says bounds (negsuc 8) (pos 9)
    ∷ bounds_of (param 0 i16 (negsuc 8) (pos 9) (2 ∷ []) ++ movement PAD 0 (5 ∷ []) (4 ∷ [])) says refusal 8 1
    -- device 255 and 256, slot 16, a 17th PARAM, two devices, operands of two types, a condition that is no bool
    ∷ bounds_of (param_on 255 0 i16 (pos 0) (pos 9) (1 ∷ [])) says bounds (pos 0) (pos 9)
    ∷ bounds_of (param_on 256 0 i16 (pos 0) (pos 9) (1 ∷ [])) says refusal 7 0
    ∷ bounds_of (param 16 i16 (pos 0) (pos 9) (1 ∷ [])) says refusal 7 0
    ∷ bounds_of (param 0 i16 (pos 0) (pos 9) (1 ∷ []) ++ param 1 i16 (pos 0) (pos 9) (1 ∷ []) ++ param 2 i16 (pos 0) (pos 9) (1 ∷ []) ++ param 3 i16 (pos 0) (pos 9) (1 ∷ []) ++ param 4 i16 (pos 0) (pos 9) (1 ∷ []) ++ param 5 i16 (pos 0) (pos 9) (1 ∷ []) ++ param 6 i16 (pos 0) (pos 9) (1 ∷ []) ++ param 7 i16 (pos 0) (pos 9) (1 ∷ []) ++ param 8 i16 (pos 0) (pos 9) (1 ∷ []) ++ param 9 i16 (pos 0) (pos 9) (1 ∷ []) ++ param 10 i16 (pos 0) (pos 9) (1 ∷ []) ++ param 11 i16 (pos 0) (pos 9) (1 ∷ []) ++ param 12 i16 (pos 0) (pos 9) (1 ∷ []) ++ param 13 i16 (pos 0) (pos 9) (1 ∷ []) ++ param 14 i16 (pos 0) (pos 9) (1 ∷ []) ++ param 15 i16 (pos 0) (pos 9) (1 ∷ []) ++ param 16 i16 (pos 0) (pos 9) (1 ∷ [])) says refusal 7 16
    ∷ bounds_of (param 0 i16 (pos 0) (pos 9) (1 ∷ []) ++ param 1 i16 (pos 0) (pos 9) (1 ∷ []) ++ param 2 i16 (pos 0) (pos 9) (1 ∷ []) ++ param 3 i16 (pos 0) (pos 9) (1 ∷ []) ++ param 4 i16 (pos 0) (pos 9) (1 ∷ []) ++ param 5 i16 (pos 0) (pos 9) (1 ∷ []) ++ param 6 i16 (pos 0) (pos 9) (1 ∷ []) ++ param 7 i16 (pos 0) (pos 9) (1 ∷ []) ++ param 8 i16 (pos 0) (pos 9) (1 ∷ []) ++ param 9 i16 (pos 0) (pos 9) (1 ∷ []) ++ param 10 i16 (pos 0) (pos 9) (1 ∷ []) ++ param 11 i16 (pos 0) (pos 9) (1 ∷ []) ++ param 12 i16 (pos 0) (pos 9) (1 ∷ []) ++ param 13 i16 (pos 0) (pos 9) (1 ∷ []) ++ param 14 i16 (pos 0) (pos 9) (1 ∷ []) ++ param 15 i16 (pos 0) (pos 9) (1 ∷ [])) says bounds (pos 0) (pos 9)
    ∷ bounds_of (param 0 i16 (negsuc 8) (pos 9) (1 ∷ []) ++ param_on 2 1 i16 (pos 0) (pos 9) (1 ∷ []) ++ binary ADD 0 1) says refusal 9 2
    ∷ bounds_of (param 0 i16 (negsuc 8) (pos 9) (1 ∷ []) ++ param 1 i32 (pos 0) (pos 9) (1 ∷ []) ++ binary ADD 0 1) says refusal 6 2
    ∷ bounds_of (param 0 i16 (negsuc 8) (pos 9) (1 ∷ []) ++ choice 0 0 0) says refusal 6 1
    -- 1048576 elements and one more; 4194304 and one more
    ∷ bounds_of (param 0 i16 (negsuc 8) (pos 9) (1024 ∷ 1024 ∷ [])) says bounds (negsuc 8) (pos 9)
    ∷ bounds_of (param 0 i16 (negsuc 8) (pos 9) (17 ∷ 61681 ∷ [])) says refusal 8 0
    ∷ bounds_of (param 0 i16 (negsuc 8) (pos 9) (1024 ∷ 1024 ∷ []) ++ param 1 i16 (negsuc 8) (pos 9) (1024 ∷ 1024 ∷ []) ++ param 2 i16 (negsuc 8) (pos 9) (1024 ∷ 1024 ∷ []) ++ param 3 i16 (negsuc 8) (pos 9) (1024 ∷ 1024 ∷ [])) says bounds (negsuc 8) (pos 9)
    ∷ bounds_of (param 0 i16 (negsuc 8) (pos 9) (1024 ∷ 1024 ∷ []) ++ param 1 i16 (negsuc 8) (pos 9) (1024 ∷ 1024 ∷ []) ++ param 2 i16 (negsuc 8) (pos 9) (1024 ∷ 1024 ∷ []) ++ param 3 i16 (negsuc 8) (pos 9) (1024 ∷ 1024 ∷ []) ++ constant i16 (pos 1)) says refusal 12 0
    -- 1: no nodes, a length that is no multiple of 17
    ∷ bounds_of [] says refusal 1 0
    ∷ bounds_of (zeros 16) says refusal 1 0
    -- 2: operation 24; 3: an unused word; 4: a source that is not earlier; 5: type 4
    ∷ bounds_of (constant i16 (pos 1) ++ binary 24 0 0) says refusal 2 1
    ∷ bounds_of (constant 0 (pos 1) ++ pos 9 ∷ pos 0 ∷ pos 0 ∷ pos 1 ∷ zeros 13) says refusal 3 1
    ∷ bounds_of (constant i16 (pos 1) ++ binary ADD 0 1) says refusal 4 1
    ∷ bounds_of (constant 4 (pos 1)) says refusal 5 0
    -- 11 at the ends of i16 (02 §2): a CONST, a PARAM's limits, CAST, a product, a sum
    ∷ bounds_of (constant i16 (negsuc 32767)) says refusal 11 0
    ∷ bounds_of (constant i16 (negsuc 32766)) says bounds (negsuc 32766) (negsuc 32766)
    ∷ bounds_of (constant i16 (pos 32767)) says bounds (pos 32767) (pos 32767)
    ∷ bounds_of (constant i16 (pos 32768)) says refusal 11 0
    ∷ bounds_of (param 0 i16 (negsuc 32767) (pos 32767) (1 ∷ [])) says refusal 11 0
    ∷ bounds_of (param 0 i16 (negsuc 32766) (pos 32767) (1 ∷ [])) says bounds (negsuc 32766) (pos 32767)
    ∷ bounds_of (param 0 i32 (negsuc 32767) (pos 0) (1 ∷ []) ++ cast 0 i16) says refusal 11 1
    ∷ bounds_of (param 0 i32 (negsuc 32766) (pos 0) (1 ∷ []) ++ cast 0 i16) says bounds (negsuc 32766) (pos 0)
    ∷ bounds_of (constant i16 (negsuc 127) ++ constant i16 (pos 256) ++ binary MUL 0 1) says refusal 11 2
    ∷ bounds_of (param 0 i16 (negsuc 16383) (pos 0) (2 ∷ []) ++ reduce 0 0 (1 ∷ [])) says refusal 11 1
    -- −32768 in the input: known it is 16 at an i16 PARAM, under a gap it is not looked at, and for an i32 it is a number
    ∷ cells_of (param 0 i16 (negsuc 32766) (pos 32767) (2 ∷ [])) (pos 1 ∷ negsuc 32767 ∷ []) (1 ∷ 1 ∷ []) says refusal 16 1
    ∷ cells_of (param 0 i16 (negsuc 32766) (pos 32767) (2 ∷ [])) (pos 1 ∷ negsuc 32767 ∷ []) (1 ∷ 0 ∷ []) says cells (known (pos 1) ∷ gap ∷ [])
    ∷ cells_of (param 0 i32 (negsuc 32767) (pos 32767) (2 ∷ [])) (pos 1 ∷ negsuc 32767 ∷ []) (1 ∷ 1 ∷ []) says cells (known (pos 1) ∷ known (negsuc 32767) ∷ [])
    -- FILL of 2x2 with a gap, by a row with a gap; KNOWN of it; STACK of three, of two
    ∷ cells_of (param 0 i16 (negsuc 8) (pos 9) (2 ∷ 2 ∷ []) ++ param 1 i16 (negsuc 8) (pos 9) (2 ∷ []) ++ binary FILL 0 1) (pos 0 ∷ pos 2 ∷ pos 3 ∷ pos 4 ∷ pos 5 ∷ pos 6 ∷ []) (1 ∷ 0 ∷ 0 ∷ 0 ∷ 0 ∷ 1 ∷ []) says cells (known (pos 0) ∷ known (pos 6) ∷ gap ∷ known (pos 6) ∷ [])
    ∷ cells_of (param 0 i16 (negsuc 8) (pos 9) (3 ∷ []) ++ pos KNOWN ∷ zeros 16) (pos 0 ∷ pos 2 ∷ negsuc 2 ∷ []) (1 ∷ 0 ∷ 1 ∷ []) says cells (known (pos 1) ∷ known (pos 0) ∷ known (pos 1) ∷ [])
    ∷ cells_of (param 0 i16 (negsuc 8) (pos 9) (2 ∷ []) ++ param 1 i16 (negsuc 8) (pos 9) (2 ∷ []) ++ stack 1 0 1 3) (pos 1 ∷ pos 2 ∷ pos 3 ∷ pos 4 ∷ []) (1 ∷ 0 ∷ 1 ∷ 1 ∷ []) says cells (known (pos 3) ∷ known (pos 4) ∷ known (pos 1) ∷ gap ∷ known (pos 3) ∷ known (pos 4) ∷ [])
    ∷ cells_of (param 0 i16 (negsuc 8) (pos 9) (2 ∷ []) ++ param 1 i16 (negsuc 8) (pos 9) (2 ∷ []) ++ stack 1 0 0 2) (pos 1 ∷ pos 2 ∷ pos 3 ∷ pos 4 ∷ []) (1 ∷ 0 ∷ 1 ∷ 1 ∷ []) says cells (known (pos 3) ∷ known (pos 4) ∷ known (pos 1) ∷ gap ∷ [])
    -- 13: either length; 14: either buffer; 15 before 16 at one position, the first bad position first
    ∷ cells_of (param 0 i16 (negsuc 8) (pos 9) (2 ∷ [])) (pos 1 ∷ []) (1 ∷ 1 ∷ []) says refusal 13 0
    ∷ cells_of (param 0 i16 (negsuc 8) (pos 9) (2 ∷ [])) (pos 1 ∷ pos 1 ∷ []) (1 ∷ []) says refusal 13 0
    ∷ cells_in (param 0 i16 (negsuc 8) (pos 9) (2 ∷ [])) (pos 1 ∷ pos 1 ∷ []) (1 ∷ 2 ∷ []) 1 2 says refusal 14 0
    ∷ cells_in (param 0 i16 (negsuc 8) (pos 9) (2 ∷ [])) (pos 1 ∷ pos 1 ∷ []) (1 ∷ 2 ∷ []) 2 1 says refusal 14 0
    ∷ cells_in (param 0 i16 (negsuc 8) (pos 9) (2 ∷ [])) (pos 1 ∷ pos 1 ∷ []) (1 ∷ 2 ∷ []) 2 2 says refusal 15 1
    ∷ cells_in (param 0 i16 (negsuc 8) (pos 9) (2 ∷ [])) (pos 99 ∷ pos 1 ∷ []) (1 ∷ 2 ∷ []) 2 2 says refusal 16 0
    ∷ cells_in (param 0 i16 (negsuc 8) (pos 9) (2 ∷ [])) (pos 1 ∷ pos 99 ∷ []) (1 ∷ 2 ∷ []) 2 2 says refusal 15 1
    -- a number under a gap is not looked at
    ∷ cells_in (param 0 i16 (negsuc 8) (pos 9) (2 ∷ [])) (pos 99 ∷ pos 1 ∷ []) (0 ∷ 1 ∷ []) 2 2 says cells (gap ∷ known (pos 1) ∷ [])
    -- 14 of a check, one word short
    ∷ room_of (param 0 i16 (negsuc 8) (pos 9) (2 ∷ [])) 7 says refusal 14 0
    ∷ room_of (param 0 i16 (negsuc 8) (pos 9) (2 ∷ [])) 8 says fits
    -- 17: the node, or the element, is not there; after the check's refusals
    ∷ origin_of (param 0 i16 (negsuc 8) (pos 9) (2 ∷ [])) 1 0 says refusal 17 0
    ∷ origin_of (param 0 i16 (negsuc 8) (pos 9) (2 ∷ [])) 0 2 says refusal 17 0
    ∷ origin_of (constant 4 (pos 1)) 5 5 says refusal 5 0
    -- 20: bytes end before or inside a number; empty bytes
    ∷ table_of [] 4352 says refusal 20 0
    ∷ table_of (0x01 ∷ 0x00 ∷ 0x04 ∷ []) 4352 says refusal 20 3
    ∷ table_of (0x01 ∷ 0x00 ∷ 0x04 ∷ 0x8a ∷ []) 4352 says refusal 20 3
    -- 21: a later last byte 0; five bytes with the high bit set where the input ends; four are 20
    ∷ table_of (0x01 ∷ 0x00 ∷ 0x04 ∷ 0x8a ∷ 0x00 ∷ []) 4352 says refusal 21 3
    ∷ table_of (0x80 ∷ 0x80 ∷ 0x80 ∷ 0x80 ∷ 0x80 ∷ []) 4352 says refusal 21 0
    ∷ table_of (0x80 ∷ 0x80 ∷ 0x80 ∷ 0x80 ∷ []) 4352 says refusal 20 0
    -- 22: bytes left over; 23: count; 24: an operation of several bytes, at its first; 14: the table's room, before any node
    ∷ table_of (0x01 ∷ 0x00 ∷ 0x04 ∷ 0x0a ∷ 0x07 ∷ 0x07 ∷ []) 4352 says refusal 22 4
    ∷ table_of (0x00 ∷ []) 4352 says refusal 23 0
    ∷ table_of (0x81 ∷ 0x02 ∷ 0x00 ∷ []) 4352 says refusal 23 0
    ∷ table_of (0x01 ∷ 0x95 ∷ 0x01 ∷ []) 4352 says refusal 24 1
    ∷ table_of (0x01 ∷ 0x95 ∷ 0x01 ∷ []) 16 says refusal 14 0
    -- 300 as a word is D8 04; the bytes of the listing
    ∷ table_of (0x01 ∷ 0x00 ∷ 0x04 ∷ 0xd8 ∷ 0x04 ∷ []) 17 says table (constant i16 (pos 300))
    ∷ number_of (0x01 ∷ 0x00 ∷ 0x04 ∷ 0x0a ∷ []) says number 1
    ∷ number_of (0x01 ∷ 0x95 ∷ 0x01 ∷ []) says number 1572865
    ∷ text_of (0x01 ∷ 0x00 ∷ 0x04 ∷ 0x0a ∷ []) says text (110 ∷ 111 ∷ 100 ∷ 101 ∷ 32 ∷ 111 ∷ 112 ∷ 32 ∷ 100 ∷ 116 ∷ 121 ∷ 112 ∷ 101 ∷ 32 ∷ 100 ∷ 101 ∷ 118 ∷ 105 ∷ 99 ∷ 101 ∷ 32 ∷ 108 ∷ 111 ∷ 119 ∷ 32 ∷ 104 ∷ 105 ∷ 103 ∷ 104 ∷ 32 ∷ 115 ∷ 104 ∷ 97 ∷ 112 ∷ 101 ∷ 10 ∷ 48 ∷ 32 ∷ 48 ∷ 32 ∷ 50 ∷ 32 ∷ 48 ∷ 32 ∷ 53 ∷ 32 ∷ 53 ∷ 32 ∷ 45 ∷ 10 ∷ 97 ∷ 99 ∷ 99 ∷ 101 ∷ 112 ∷ 116 ∷ 101 ∷ 100 ∷ 32 ∷ 49 ∷ 10 ∷ [])
    -- a listing with rank 2 and a negative bound, and a refusal's
    ∷ text_of (0x01 ∷ 0x01 ∷ 0x04 ∷ 0x00 ∷ 0x02 ∷ 0x11 ∷ 0x12 ∷ 0x04 ∷ 0x06 ∷ 0x00 ∷ 0x00 ∷ []) says text (110 ∷ 111 ∷ 100 ∷ 101 ∷ 32 ∷ 111 ∷ 112 ∷ 32 ∷ 100 ∷ 116 ∷ 121 ∷ 112 ∷ 101 ∷ 32 ∷ 100 ∷ 101 ∷ 118 ∷ 105 ∷ 99 ∷ 101 ∷ 32 ∷ 108 ∷ 111 ∷ 119 ∷ 32 ∷ 104 ∷ 105 ∷ 103 ∷ 104 ∷ 32 ∷ 115 ∷ 104 ∷ 97 ∷ 112 ∷ 101 ∷ 10 ∷ 48 ∷ 32 ∷ 49 ∷ 32 ∷ 50 ∷ 32 ∷ 49 ∷ 32 ∷ 45 ∷ 57 ∷ 32 ∷ 57 ∷ 32 ∷ 50 ∷ 120 ∷ 51 ∷ 10 ∷ 97 ∷ 99 ∷ 99 ∷ 101 ∷ 112 ∷ 116 ∷ 101 ∷ 100 ∷ 32 ∷ 49 ∷ 10 ∷ [])
    ∷ text_of [] says text (114 ∷ 101 ∷ 102 ∷ 117 ∷ 115 ∷ 101 ∷ 100 ∷ 32 ∷ 50 ∷ 48 ∷ 32 ∷ 97 ∷ 116 ∷ 32 ∷ 48 ∷ 10 ∷ [])
    ∷ []

abbrev pub FurtherHold : Type 0
FurtherHold = map (λ (x : Example). reply x.ask) further ≡ map (λ (x : Example). x.paper) further
