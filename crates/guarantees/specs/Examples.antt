-- "Those marked ● are proved together, as a single table under a single statement, about the rules themselves."; where 02 changes one, it is as 02 gives it.
use Rattle.std.specs.Prelude.{◌≡◌, List, [], ◌∷◌, ◌++◌, map, pos, negsuc}
use Rattle.plan.specs.Operations.{PERMUTE, FLIP, PAD, ADD, MUL, IDIV, MOD, CMPLT}
use Rattle.cells.specs.Cells.{known, gap}
use Rattle.guarantees.specs.Questions.{u8, i16, i32, param, constant, movement, binary, choice, reduce, bounds_of, cells_of, origin_of, bounds, cells, origin, refusal, reply, Example, ◌says◌}

abbrev pub marked : List Example
marked =
    -- 02 §2: "The marked example of [−16384,16383] added to itself is now refused 11; [−16383,16383] gives [−32766,32766] and is accepted."
    bounds_of (param 0 i16 (negsuc 16383) (pos 16383) (4 ∷ []) ++ binary ADD 0 0) says refusal 11 1
    ∷ bounds_of (param 0 i16 (negsuc 16382) (pos 16383) (4 ∷ []) ++ binary ADD 0 0) says bounds (negsuc 32765) (pos 32766)
    -- "[−20000,20000] to itself: refused 11."
    ∷ bounds_of (param 0 i16 (negsuc 19999) (pos 20000) (4 ∷ []) ++ binary ADD 0 0) says refusal 11 1
    -- "u8 [0,255] times 2: refused 11."
    ∷ bounds_of (param 0 u8 (pos 0) (pos 255) (4 ∷ []) ++ constant u8 (pos 2) ++ binary MUL 0 1) says refusal 11 2
    -- "Sum of 3 of [−4,10]: [−12,30]."
    ∷ bounds_of (param 0 i16 (negsuc 3) (pos 10) (3 ∷ []) ++ reduce 0 0 (1 ∷ [])) says bounds (negsuc 11) (pos 30)
    -- "IDIV [−7,7] by 2: [−4,3]."
    ∷ bounds_of (param 0 i16 (negsuc 6) (pos 7) (4 ∷ []) ++ constant i16 (pos 2) ++ binary IDIV 0 1) says bounds (negsuc 3) (pos 3)
    -- "i32 [−2147483648,0] by −1: refused 11."
    ∷ bounds_of (param 0 i32 (negsuc 2147483647) (pos 0) (4 ∷ []) ++ constant i32 (negsuc 0) ++ binary IDIV 0 1) says refusal 11 2
    -- "MOD by [−3,−2]: [−2,0]."
    ∷ bounds_of (param 0 i16 (negsuc 6) (pos 7) (4 ∷ []) ++ param 1 i16 (negsuc 2) (negsuc 1) (4 ∷ []) ++ binary MOD 0 1) says bounds (negsuc 1) (pos 0)
    -- "CMPLT of [4,9] and [0,4]: [0,0]."
    ∷ bounds_of (param 0 i16 (pos 4) (pos 9) (4 ∷ []) ++ param 1 i16 (pos 0) (pos 4) (4 ∷ []) ++ binary CMPLT 0 1) says bounds (pos 0) (pos 0)
    -- "7 9 padded to 5 at 1: gap 7 9 gap gap"
    ∷ cells_of (param 0 i16 (pos 0) (pos 9) (2 ∷ []) ++ movement PAD 0 (5 ∷ []) (1 ∷ [])) (pos 7 ∷ pos 9 ∷ []) (1 ∷ 1 ∷ [])
    says cells (gap ∷ known (pos 7) ∷ known (pos 9) ∷ gap ∷ gap ∷ [])
    -- "flipped: gap gap 9 7 gap."
    ∷ cells_of (param 0 i16 (pos 0) (pos 9) (2 ∷ []) ++ movement PAD 0 (5 ∷ []) (1 ∷ []) ++ movement FLIP 1 (1 ∷ []) []) (pos 7 ∷ pos 9 ∷ []) (1 ∷ 1 ∷ [])
    says cells (gap ∷ gap ∷ known (pos 9) ∷ known (pos 7) ∷ gap ∷ [])
    -- "PERMUTE (1,0) of 2x3: element 3 is source element 4."
    ∷ origin_of (param 0 i16 (pos 0) (pos 9) (2 ∷ 3 ∷ []) ++ movement PERMUTE 0 (1 ∷ 0 ∷ []) []) 1 3 says origin 0 4
    -- "WHERE 1, 4, gap: 4."
    ∷ cells_of (constant 0 (pos 1) ++ constant i16 (pos 4) ++ param 0 i16 (pos 0) (pos 9) (1 ∷ []) ++ choice 0 1 2) (pos 0 ∷ []) (0 ∷ [])
    says cells (known (pos 4) ∷ [])
    ∷ []

-- the single statement
abbrev pub MarkedHold : Type 0
MarkedHold = map (λ (x : Example). reply x.ask) marked ≡ map (λ (x : Example). x.paper) marked
