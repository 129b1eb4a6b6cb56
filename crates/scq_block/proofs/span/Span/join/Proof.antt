-- `join` makes one of two spans that lie side by side. Assumes `Logic`.
use Rattle.std.proofs.Common.{◌≡◌, List, [], ◌∷◌, ◌++◌, length, refl}
use Rattle.std.proofs.alloc.Calls.{Goes-blank}
use Rattle.std.proofs.raw_atomic.Walks.{proved_at}
use Rattle.bytes.proofs.Walks.{none, none_made, none_had}
use mir.Val.{Val}
use prog.Wp.{WpFn}
use contract.Monad.{fact}
use contract.Running.{tables}
use types.Kit.{‵, raw, ◌⊛◌, prop, ◌$◌, ◌∵◌, !, qed, move, drop as lets, use2, split, fsplit, fjoin, regoal, rewrite, suffices, done}
use types.Part.{agg}
use types.Run.{enter, returns, no_more}
use types.ByLocal.{alloc_all, pass_all, free_all, look_at, sets}
use denote.Exit.{yes}
use denote.RattleType.{owns}
use denote.RawPtr.{◌+ₚ◌}
use denote.Signature.{plain, types_at}
use denote.Steps.{nothing, heard}
use denote.Triple.Entry.{alive}
use denote.Triple.Walked.{says, Stays, stay_dropped, walk_of, ends_at}
use Rattle.bytes.specs.Ownership.{run_owns}
use Rattle.scq_block.specs.contracts.span.Span as Span
use Rattle.scq_block.specs.contracts.span.Span.join as F
use Rattle.scq_block.specs.contracts.span.Span.join.Key.{name as #self}
use Rattle.scq_block.proofs.Spans.{join}
use Rattle.scq_block.proofs.span.Span.join.Statement.{statement}
use Rattle.scq_block.proofs.span.Span.join.Code as code

abbrev stayed : Stays F.ended.signature.params F.ended.kept
stayed = (stay_dropped (plain (λ _. Span.the_row)) yes, (stay_dropped (plain (λ _. Span.the_row)) yes, tt))

pub join_spec : {M : Type 1} → statement M
join_spec 𝓤 𝓛 𝓜 𝓡 wired =
    let c = F.clauses 𝓛 𝓜.mem 𝓡.returns in
    let W = walk_of 𝓛 F.ended stayed c in
    let 𝓣 = tables 𝓤 𝓛.H 𝓜 𝓡 𝓡.env in
    let goes = Goes-blank 𝓛 0 (plain (λ _. Span.the_row)) yes (λ κs x f. tt) in
    proved_at 𝓛 F.ended stayed c 𝓜 𝓡 (goes, (goes, tt)) #self code.function (code.unfolded 𝓤 𝓛.H 𝓜 𝓡 wired) (λ z are.
    let a = z.0.3 in let vss = z.0.4 in let s = a.0 in let t = a.1.0 in
    let both : (Span.the_row).Denot = record { start = s.start; bytes = s.bytes ++ t.bytes } in
    let Asked = t.start ≡ s.start +ₚ length s.bytes in
    qed 𝓛 ((raw (alive 𝓛 F.signature z.0.0 z.0.1) ⊛ ‵ (owns (types_at F.signature.params z.0.0) a vss)) ∷ raw (fact 𝓤 Asked) ∷ []) ∵
    move ! (1 ∷ []) $ heard ! Asked (λ asked. split ! $ move ! (1 ∷ []) $
    fsplit ! $ fsplit ! $ none_had ! vss.0 (λ is₀. move ! (1 ∷ []) $
    fsplit ! $ fsplit ! $ none_had ! vss.1.0 (λ is₁. move ! (1 ∷ []) $ lets ! $ move ! (1 ∷ 0 ∷ []) $
    -- [the first bytes; the next; the tokens]
    regoal ! (λ (us : List Val). prop (WpFn 𝓤 𝓛.H 𝓣.C 𝓣.Λ code.function us (W.post z))) (λ i. is₀ i ++ (is₁ i ++ [])) refl $
    rewrite ! 1 (λ p. ‵ (run_owns p t.bytes)) asked refl $ use2 𝓛 (‵ (run_owns s.start both.bytes)) (join 𝓛 s.start s.bytes t.bytes) $
    enter ! 𝓣.C 𝓣.Λ code.function (none ∷ none ∷ []) (W.post z) $ alloc_all ! (λ l. pass_all ! refl ((tt, tt), ((tt, tt), tt)) $
    sets ! (agg ! (no_more !)) refl (tt, tt) $
    none_made ! $ fjoin ! $
    returns ! (look_at ! 0 refl) $ free_all ! refl $
    suffices ! _ (ends_at 𝓛 F.ended stayed c z none both (tt, (tt, tt)) (tt, (tt, tt))) $ says ! (refl, refl) $
    nothing ! $ nothing ! $ fjoin ! $ nothing ! $ fjoin ! $ move ! (2 ∷ 0 ∷ 1 ∷ []) $ done !)))))
