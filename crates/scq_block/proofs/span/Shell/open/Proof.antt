-- `open` takes the bytes out, and leaves the way back. Assumes `Logic`.
use Rattle.std.proofs.Common.{◌<◌, List, [], ◌∷◌, ◌++◌, refl, sym, subst}
use Rattle.std.proofs.alloc.Calls.{Goes-blank}
use Rattle.std.proofs.raw_atomic.Walks.{proved_at}
use Rattle.std.specs.contracts.alloc.Global as heap
use Rattle.std.specs.contracts.impls.GlobalAllocator.TheImpl.{ghosts}
use Rattle.bytes.specs.Ownership.{run_owns}
use Rattle.bytes.specs.contracts.block.Sole.{the_own}
use Rattle.bytes.proofs.Vecs.{carve}
use Rattle.bytes.proofs.Walks.{none, one, two, tells, none_made, two_made}
use mir.Val.{Val}
use prog.Wp.{WpFn}
use base.Fml.{ftrue}
use base.Logic.{id⊢}
use contract.Monad.{fact}
use contract.Running.{tables}
use types.Kit.{‵, raw, ◌⊛◌, prop, ◌$◌, ◌∵◌, !, qed, move, drop as lets, use1, split, fsplit, fjoin, fpack, regoal, rewrite, suffices, done}
use types.Part.{agg}
use types.Run.{enter, returns, of_opd, and_then, no_more}
use types.ByLocal.{alloc_all, pass_all, free_all, look_at, get, sets}
use denote.Exit.{yes}
use denote.Laws.{Typed}
use denote.Param.{layout}
use denote.RattleType.{owns}
use denote.RawPtr.{InBlock, in_a_block}
use denote.Signature.{plain, types_at}
use denote.Steps.{nothing, heard}
use denote.Struct.Struct.{as_fields}
use denote.Triple.Entry.{alive}
use denote.Triple.Walked.{says, Stays, stay_dropped, walk_of, ends_at}
use Rattle.scq_block.specs.contracts.span.Span as Span
use Rattle.scq_block.specs.contracts.span.Shell as Shell
use Rattle.scq_block.specs.contracts.span.Shell.open as F
use Rattle.scq_block.specs.contracts.span.Shell.open.Key.{name as #self}
use Rattle.scq_block.proofs.VecOfBytes.{Whole, whole_laws}
use Rattle.scq_block.proofs.span.Shell.open.Statement.{statement}
use Rattle.scq_block.proofs.span.Shell.open.Code as code

abbrev stayed : Stays F.ended.signature.params F.ended.kept
stayed = (stay_dropped (plain (λ _. Whole)) yes, tt)

pub open_spec : {M : Type 1} → statement M
open_spec 𝓤 𝓛 𝓜 𝓡 wired =
    let c = F.clauses 𝓛 𝓜.mem 𝓡.returns in
    let W = walk_of 𝓛 F.ended stayed c in
    let 𝓣 = tables 𝓤 𝓛.H 𝓜 𝓡 𝓡.env in
    proved_at 𝓛 F.ended stayed c 𝓜 𝓡 (Goes-blank 𝓛 0 (plain (λ _. Whole)) yes (λ κs x f. tt), tt) #self code.function (code.unfolded 𝓤 𝓛.H 𝓜 𝓡 wired) (λ z are.
    let v = z.0.3.0 in
    let e : (Shell.the_row).Denot = record { ptr = v.ptr; len = v.len } in
    let r : (Span.the_row).Denot = record { start = v.ptr; bytes = v.items } in
    let Asked = 0 < v.len in
    qed 𝓛 ((raw (alive 𝓛 F.signature z.0.0 z.0.1) ⊛ ‵ (owns (types_at F.signature.params z.0.0) z.0.3 z.0.4)) ∷ raw (fact 𝓤 Asked) ∷ []) ∵
    move ! (1 ∷ []) $ heard ! Asked (λ asked. split ! $ move ! (1 ∷ []) $
    fsplit ! $ tells ! Whole whole_laws v z.0.4.0 (λ u is good. move ! (1 ∷ []) $ lets ! $
    let inner = as_fields (layout Whole ∷ []) (u ∷ []) (good, tt) in
    -- [the vector; the tokens]
    use1 𝓛 (‵ (run_owns v.ptr v.items) ⊛ ‵ (the_own heap.the_row ghosts e (one u ∷ []))) (carve heap.the_row ghosts 𝓛 v u asked) $ split ! $
    in_a_block ! v.ptr (λ p. run_owns p v.items) (id⊢ 𝓤 _) (λ b o at. rewrite ! 0 (λ p. ‵ (run_owns p v.items)) (sym at) refl $
    none_made ! $ fjoin ! $ move ! (1 ∷ []) $ nothing ! $ fpack ! (Typed (Shell.the_row).mir (one u ∷ [])) (λ _. ftrue) (inner, tt) $ fjoin ! $
    two_made ! Shell.the_row Span.the_row e r (one u) none $
    regoal ! (λ (us : List Val). prop (WpFn 𝓤 𝓛.H 𝓣.C 𝓣.Λ code.function (us ++ []) (W.post z))) is refl $
    enter ! 𝓣.C 𝓣.Λ code.function (u ∷ []) (W.post z) $ alloc_all ! (λ l. pass_all ! refl (good, tt) $
    sets ! (of_opd ! (get ! refl)) refl good $
    sets ! (agg ! (and_then ! (get ! refl) (no_more !))) refl inner $
    sets ! (agg ! (no_more !)) refl (tt, tt) $
    sets ! (agg ! (and_then ! (get ! refl) (and_then ! (get ! refl) (no_more !)))) refl
    (as_fields (layout Shell.the_row ∷ layout Span.the_row ∷ []) (one u ∷ none ∷ []) (inner, ((tt, tt), tt))) $
    returns ! (look_at ! 0 refl) $ free_all ! refl $
    suffices ! _ (ends_at 𝓛 F.ended stayed c z (two (one u) none) (e, r) (tt, tt) (tt, tt)) $ says ! (refl, refl, refl, refl, subst InBlock (sym at) tt) $
    nothing ! $ nothing ! $ fjoin ! $ move ! (2 ∷ 0 ∷ 1 ∷ []) $ done !)))))
