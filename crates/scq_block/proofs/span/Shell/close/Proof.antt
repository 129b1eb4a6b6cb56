-- `close` hands the bytes to the vector that waits for them. Assumes `Logic`.
use Rattle.std.proofs.Common.{◌≡◌, ℕ, List, [], ◌∷◌, ◌++◌, length, refl, sym, ◌∙◌, subst}
use Rattle.std.proofs.alloc.Calls.{Goes-blank}
use Rattle.std.proofs.lemmas.List.{with_items_is}
use Rattle.std.proofs.raw_atomic.Walks.{proved_at}
use Rattle.std.specs.Vec.{with_items}
use Rattle.bytes.specs.Ownership.{run_owns}
use Rattle.bytes.proofs.Walks.{plainly, none, one, one_had, none_had}
use mir.Val.{Val}
use prog.Wp.{WpFn}
use base.Fml.{fsep, feq, fwand}
use base.Logic.{all_e, apply∗}
use contract.Monad.{fact}
use contract.Running.{tables}
use types.Logic.{sem}
use types.Kit.{‵, raw, ◌⊛◌, prop, ◌$◌, ◌∵◌, !, qed, move, drop as lets, use1, use2, split, fsplit, fjoin, fpick, feq_l, feq_i, regoal, rewrite, suffices, done}
use types.Part.{sub, whole}
use types.Run.{enter, returns, of_opd, fld, stop}
use types.ByLocal.{alloc_all, pass_all, free_all, look_at, get, get_in, sets}
use denote.Exit.{yes}
use denote.Laws.{Typed}
use denote.RattleType.{owns}
use denote.Signature.{plain, types_at}
use denote.Steps.{nothing, heard}
use denote.Triple.Entry.{alive}
use denote.Triple.Walked.{says, Stays, stay_dropped, walk_of, ends_at}
use Rattle.scq_block.specs.contracts.span.Span as Span
use Rattle.scq_block.specs.contracts.span.Shell as Shell
use Rattle.scq_block.specs.contracts.span.Shell.close as F
use Rattle.scq_block.specs.contracts.span.Shell.close.Key.{name as #self}
use Rattle.scq_block.proofs.VecOfBytes.{Whole, whole_laws}
use Rattle.scq_block.proofs.span.Shell.close.Statement.{statement}
use Rattle.scq_block.proofs.span.Shell.close.Code as code

abbrev stayed : Stays F.ended.signature.params F.ended.kept
stayed = (stay_dropped (plain (λ _. Shell.the_row)) yes, (stay_dropped (plain (λ _. Span.the_row)) yes, tt))

pub close_spec : {M : Type 1} → statement M
close_spec 𝓤 𝓛 𝓜 𝓡 wired =
    let c = F.clauses 𝓛 𝓜.mem 𝓡.returns in
    let W = walk_of 𝓛 F.ended stayed c in
    let 𝓣 = tables 𝓤 𝓛.H 𝓜 𝓡 𝓡.env in
    proved_at 𝓛 F.ended stayed c 𝓜 𝓡
    (Goes-blank 𝓛 0 (plain (λ _. Shell.the_row)) yes (λ κs x f. tt), (Goes-blank 𝓛 0 (plain (λ _. Span.the_row)) yes (λ κs x f. tt), tt))
    #self code.function (code.unfolded 𝓤 𝓛.H 𝓜 𝓡 wired) (λ z are.
    let a = z.0.3 in let vss = z.0.4 in let e = a.0 in let xs = a.1.0.bytes in
    let Asked = (a.1.0.start ≡ e.ptr) × (length xs ≡ e.len) in
    qed 𝓛 ((raw (alive 𝓛 F.signature z.0.0 z.0.1) ⊛ ‵ (owns (types_at F.signature.params z.0.0) a vss)) ∷ raw (fact 𝓤 Asked) ∷ []) ∵
    move ! (1 ∷ []) $ heard ! Asked (λ asked. split ! $ move ! (1 ∷ []) $
    fsplit ! $ move ! (1 ∷ []) $ fsplit ! $ fsplit ! $ none_had ! vss.1.0 (λ is₁. move ! (1 ∷ []) $ lets ! $ move ! (1 ∷ []) $
    -- [the shell; the bytes; the tokens]
    fsplit ! $ fpick ! (λ typed. lets ! $ fpick ! (λ i. fsplit ! $ feq_l ! (λ len.
    let Given = λ (ys : List ℕ). fsep (feq ℕ (length ys) e.len) (run_owns e.ptr ys) in
    let Back = λ (ys : List ℕ). (plainly (Whole ∷ [])).own_val (with_items i.vec ys, tt) vss.0 in
    use1 𝓛 (‵ (fwand (Given xs) (Back xs))) (all_e 𝓤 (λ ys. sem 𝓛 (fwand (Given ys) (Back ys))) xs) $ move ! (1 ∷ []) $
    rewrite ! 0 (λ p. ‵ (run_owns p xs)) asked.0 refl $ feq_i ! ℕ (length xs) e.len asked.1 $ fjoin ! $
    use2 𝓛 (‵ (Back xs)) (apply∗ 𝓤 (sem 𝓛 (Given xs)) (sem 𝓛 (Back xs))) $ one_had ! Whole whole_laws (with_items i.vec xs) vss.0 (λ u is₀ good.
    -- [the vector; the tokens]
    regoal ! (λ (us : List Val). prop (WpFn 𝓤 𝓛.H 𝓣.C 𝓣.Λ code.function us (W.post z))) (λ j. is₀ j ++ (is₁ j ++ [])) refl $
    enter ! 𝓣.C 𝓣.Λ code.function (one u ∷ none ∷ []) (W.post z) $
    alloc_all ! (λ l. pass_all ! refl ((subst (Typed (Shell.the_row).mir) is₀ typed).0, ((tt, tt), tt)) $
    sets ! (of_opd ! (get_in ! (fld ! refl (stop !)) (sub ! 0 refl (whole !)))) refl good $
    sets ! (of_opd ! (get ! refl)) refl good $
    returns ! (look_at ! 0 refl) $ free_all ! refl $
    suffices ! _ (ends_at 𝓛 F.ended stayed c z u (with_items i.vec xs) (tt, (tt, tt)) (tt, (tt, tt))) $ says ! (with_items_is i.vec xs (asked.1 ∙ sym len)) $
    nothing ! $ nothing ! $ fjoin ! $ nothing ! $ fjoin ! $ move ! (2 ∷ 0 ∷ 1 ∷ []) $ done !))))))))
