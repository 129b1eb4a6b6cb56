-- Blocks of answers: one more, one of them, and what holds of their answers.
use Rattle.std.proofs.Common.{◌≡◌, ◌∙◌, refl, sym, ap, subst, arith, Bool, zero, suc, ℕ, ◌+◌, ◌<◌, ◌≤◌, List, [], ◌∷◌, ◌++◌, length, map, take}
use Rattle.std.specs.Prelude.{flat_map, slice_index_or}
use Rattle.std.specs.List.{All, AllZip, filter}
use Rattle.std.proofs.lemmas.List.{append_assoc, map-append, take_all, take_more}
use Rattle.std.proofs.lemmas.List.Elements.{All-append, All-nil, filter-append}
use Rattle.std.proofs.lemmas.Slice.Zip.{AllZip-long}
use Rattle.scq_collect.specs.declared.answered.Answered.{Answered}
use Rattle.scq_collect.specs.declared.laid.Block.{Block}
use Rattle.scq_collect.specs.declared.spans.Span.{Span}
use Rattle.scq_collect.specs.declared.blocks.OwnBlock.{OwnBlock}
use Rattle.scq_collect.specs.Exports.{IsCodable, HasAnswers, PartAnswer, without_way, AreLaid, IsBlockOf, members_of, is_in}
use Rattle.scq_collect.proofs.InChunks.{flat-push}

-- two lists of which each place of one has that of the other
pub zip-push : {A B : Type 0} (R : A → B → Type 0) (xs : List A) (ys : List B) (x : A) (y : B) → AllZip R xs ys → R x y
    → AllZip R (xs ++ x ∷ []) (ys ++ y ∷ [])
zip-push R [] [] x y all is = (is, tt)
zip-push R (a ∷ xs) (b ∷ ys) x y all is = (all.0, zip-push R xs ys x y all.1 is)
zip-push R [] (b ∷ ys) x y all is = absurd all
zip-push R (a ∷ xs) [] x y all is = absurd all

pub zip-at : {A B : Type 0} (R : A → B → Type 0) (xs : List A) (ys : List B) (n : ℕ) (d : A) (e : B) → AllZip R xs ys → n < length xs
    → R (slice_index_or xs n d) (slice_index_or ys n e)
zip-at R [] [] n d e all less = absurd (omega (arith, less))
zip-at R (x ∷ xs) (y ∷ ys) zero d e all less = all.0
zip-at R (x ∷ xs) (y ∷ ys) (suc n) d e all less = zip-at R xs ys n d e all.1 (omega (arith, less))
zip-at R [] (y ∷ ys) n d e all less = absurd all
zip-at R (x ∷ xs) [] n d e all less = absurd all

codable-of : (blocks : List Block) (groups : List (List PartAnswer)) → AllZip IsBlockOf blocks groups → All IsCodable (flat_map (λ group. group) groups)
codable-of [] [] are = All-nil IsCodable
codable-of (b ∷ bs) (g ∷ gs) are = All-append IsCodable g (flat_map (λ group. group) gs) are.0.codable (codable-of bs gs are.1)
codable-of [] (g ∷ gs) are = absurd are
codable-of (b ∷ bs) [] are = absurd are

pub laid-codable : (answers : List PartAnswer) (blocks : List Block) → AreLaid answers blocks → All IsCodable answers
laid-codable answers blocks laid = subst (All IsCodable) (sym laid.all) (codable-of blocks laid.groups laid.each)

pub laid-none : AreLaid [] []
laid-none = record { groups = []; each = tt; all = refl }

-- one block more
pub laid-push : (answers more : List PartAnswer) (blocks now : List Block) (block : Block) → now ≡ blocks ++ block ∷ [] → AreLaid answers blocks
    → IsBlockOf block more → AreLaid (answers ++ more) now
laid-push answers more blocks now block pushed laid is =
    subst (AreLaid (answers ++ more)) (sym pushed) (record {
      groups = laid.groups ++ more ∷ [];
      each = zip-push IsBlockOf blocks laid.groups block more laid.each is;
      all = ap (λ (l : List PartAnswer). l ++ more) laid.all ∙ sym (flat-push (λ (group : List PartAnswer). group) laid.groups more);
    })

-- one list more behind those so far
pub flat-so-far : {A : Type 0} (had : List A) (groups : List (List A)) (n : ℕ) → n < length groups
    → (had ++ flat_map (λ group. group) (take n groups)) ++ slice_index_or groups n [] ≡ had ++ flat_map (λ group. group) (take (n + 1) groups)
flat-so-far {A} had groups n less =
    append_assoc had (flat_map (λ group. group) (take n groups)) (slice_index_or groups n [])
    ∙ ap (λ (l : List A). had ++ l)
    (sym (ap (flat_map (λ (group : List A). group)) (take_more groups n [] less) ∙ flat-push (λ (group : List A). group) (take n groups) (slice_index_or groups n [])))

-- what passes a test, with one part more
pub filtered-more : (test : PartAnswer → Bool) (had now new done more : List PartAnswer) → new ≡ now ++ filter test more → now ≡ had ++ filter test done
    → new ≡ had ++ filter test (done ++ more)
filtered-more test had now new done more pushed so_far =
    pushed ∙ ap (λ (l : List PartAnswer). l ++ filter test more) so_far ∙ append_assoc had (filter test done) (filter test more)
    ∙ ap (λ (l : List PartAnswer). had ++ l) (sym (filter-append test done more))

-- the answers of the blocks up to one and it
pub spots-more : (answers : List PartAnswer) (blocks : List Block) (laid : AreLaid answers blocks) (span : Span) (n : ℕ) (d : Block)
    (had now new : List PartAnswer) → n < length blocks
    → ((own : List PartAnswer) → IsBlockOf (slice_index_or blocks n d) own → new ≡ now ++ filter (is_in span) own)
    → now ≡ had ++ filter (is_in span) (flat_map (λ group. group) (take n laid.groups))
    → new ≡ had ++ filter (is_in span) (flat_map (λ group. group) (take (n + 1) laid.groups))
spots-more answers blocks laid span n d had now new less next so_far =
    let own : List PartAnswer = slice_index_or laid.groups n [] in
    let is : IsBlockOf (slice_index_or blocks n d) own = zip-at IsBlockOf blocks laid.groups n d [] laid.each less in
    let within : n < length laid.groups = omega (arith, less, AllZip-long IsBlockOf blocks laid.groups laid.each) in
    filtered-more (is_in span) had now new (flat_map (λ group. group) (take n laid.groups)) own (next own is) so_far
    ∙ ap (λ (l : List PartAnswer). had ++ filter (is_in span) l) (flat-so-far [] laid.groups n within)

-- all of them
pub spots-all : (answers : List PartAnswer) (blocks : List Block) (laid : AreLaid answers blocks) (span : Span) (n : ℕ) (had now : List PartAnswer)
    → length blocks ≤ n → now ≡ had ++ filter (is_in span) (flat_map (λ group. group) (take n laid.groups)) → now ≡ had ++ filter (is_in span) answers
spots-all answers blocks laid span n had now all so_far =
    so_far
    ∙ ap (λ (gs : List (List PartAnswer)). had ++ filter (is_in span) (flat_map (λ group. group) gs))
    (take_all n laid.groups (omega (arith, all, AllZip-long IsBlockOf blocks laid.groups laid.each)))
    ∙ ap (λ (l : List PartAnswer). had ++ filter (is_in span) l) (sym laid.all)

-- the groups up to one and it
pub group-more : (blocks : List OwnBlock) (groups : List (List PartAnswer)) (n : ℕ) (block : OwnBlock) (members : List PartAnswer) (now : List Block)
    → n < length blocks → slice_index_or blocks n block ≡ block → AllZip HasAnswers blocks groups → All (All IsCodable) groups
    → ((own : List PartAnswer) → All IsCodable own → HasAnswers block own → AreLaid ((members ++ flat_map (λ group. group) (take n groups)) ++ own) now)
    → AreLaid (members ++ flat_map (λ group. group) (take (n + 1) groups)) now
group-more blocks groups n block members now less here all fits next =
    let group : List PartAnswer = slice_index_or groups n [] in
    let within : n < length groups = omega (arith, less, AllZip-long HasAnswers blocks groups all) in
    let has : HasAnswers block group = subst (λ (b : OwnBlock). HasAnswers b group) here (zip-at HasAnswers blocks groups n block [] all less) in
    subst (λ (l : List PartAnswer). AreLaid l now) (flat-so-far members groups n within) (next group (fits n [] within) has)

-- all of them
pub group-all : (blocks : List OwnBlock) (groups : List (List PartAnswer)) (n : ℕ) (members : List PartAnswer) (now : List Block) → length blocks ≤ n
    → AllZip HasAnswers blocks groups → AreLaid (members ++ flat_map (λ group. group) (take n groups)) now
    → AreLaid (members ++ flat_map (λ group. group) groups) now
group-all blocks groups n members now past all laid =
    subst (λ (gs : List (List PartAnswer)). AreLaid (members ++ flat_map (λ group. group) gs) now)
    (take_all n groups (omega (arith, past, AllZip-long HasAnswers blocks groups all))) laid

-- one list more
pub list-more : (lists : List (List Answered)) (n : ℕ) (list : List Answered) (now : List Block) → n < length lists → slice_index_or lists n list ≡ list
    → AreLaid (map without_way (members_of (take n lists)) ++ map without_way list) now → AreLaid (map without_way (members_of (take (n + 1) lists))) now
list-more lists n list now less here laid =
    let more : members_of (take (n + 1) lists) ≡ members_of (take n lists) ++ list =
    ap members_of (take_more lists n list less) ∙ flat-push (λ (l : List Answered). l) (take n lists) (slice_index_or lists n list)
    ∙ ap (λ (l : List Answered). members_of (take n lists) ++ l) here in
    subst (λ (l : List PartAnswer). AreLaid l now) (sym (ap (map without_way) more ∙ map-append without_way (members_of (take n lists)) list)) laid
