-- A text that grew part by part
use Rattle.std.proofs.Common.{◌≡◌, ◌∙◌, ap, append_assoc, ℕ, List, [], ◌++◌}

-- a part more behind those that a text had at first
pub behind : (first before after front part : List ℕ) → before ≡ first ++ front → after ≡ before ++ part → after ≡ first ++ (front ++ part)
behind first before after front part had more = more ∙ ap (λ z. z ++ part) had ∙ append_assoc first front part

-- five more
pub grown_by_five : (t0 t1 t2 t3 t4 t5 a b c d e : List ℕ) → t1 ≡ t0 ++ a → t2 ≡ t1 ++ b → t3 ≡ t2 ++ c → t4 ≡ t3 ++ d → t5 ≡ t4 ++ e
    → t5 ≡ t0 ++ (a ++ b ++ c ++ d ++ e)
grown_by_five t0 t1 t2 t3 t4 t5 a b c d e p1 p2 p3 p4 p5 =
    behind t0 t4 t5 (a ++ b ++ c ++ d) e (behind t0 t3 t4 (a ++ b ++ c) d (behind t0 t2 t3 (a ++ b) c (behind t0 t1 t2 a b p1 p2) p3) p4) p5

-- by ten parts
pub grown : (t0 t1 t2 t3 t4 t5 t6 t7 t8 t9 t10 a b c d e f g h i j : List ℕ) → t0 ≡ []
    → t1 ≡ t0 ++ a → t2 ≡ t1 ++ b → t3 ≡ t2 ++ c → t4 ≡ t3 ++ d → t5 ≡ t4 ++ e → t6 ≡ t5 ++ f
    → t7 ≡ t6 ++ g → t8 ≡ t7 ++ h → t9 ≡ t8 ++ i → t10 ≡ t9 ++ j → t10 ≡ a ++ b ++ c ++ d ++ e ++ f ++ g ++ h ++ i ++ j
grown t0 t1 t2 t3 t4 t5 t6 t7 t8 t9 t10 a b c d e f g h i j none p1 p2 p3 p4 p5 p6 p7 p8 p9 p10 = cc
