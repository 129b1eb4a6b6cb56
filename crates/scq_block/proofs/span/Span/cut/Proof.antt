-- `cut` parts the bytes. Assumes `Logic`.
use Rattle.std.proofs.Common.{◌≤◌, List, [], ◌∷◌, ◌++◌, length, take, drop, refl}
use Rattle.std.proofs.alloc.Calls.{Goes-blank}
use Rattle.std.proofs.raw_atomic.Walks.{proved_at}
use Rattle.bytes.proofs.Walks.{none, two, none_made, two_made, none_had}
use mir.Syntax.{w64}
use mir.Val.{Val, vint}
use prog.Wp.{WpFn}
use contract.Monad.{fact}
use contract.Running.{tables}
use types.Kit.{‵, raw, ◌⊛◌, prop, ◌$◌, ◌∵◌, !, qed, move, drop as lets, use1, split, fsplit, fjoin, regoal, suffices, done}
use types.Part.{agg}
use types.Run.{enter, returns, and_then, no_more}
use types.ByLocal.{alloc_all, pass_all, free_all, look_at, get, sets}
use denote.Exit.{yes}
use denote.RattleType.{owns}
use denote.RawPtr.{◌+ₚ◌}
use denote.Builtin.{usize}
use denote.Signature.{plain, types_at}
use denote.Steps.{nothing, heard}
use denote.Triple.Entry.{alive}
use denote.Triple.Walked.{says, Stays, stay_dropped, walk_of, ends_at}
use Rattle.bytes.specs.Ownership.{run_owns}
use Rattle.scq_block.specs.contracts.span.Span as Span
use Rattle.scq_block.specs.contracts.span.Span.cut as F
use Rattle.scq_block.specs.contracts.span.Span.cut.Key.{name as #self}
use Rattle.scq_block.proofs.Spans.{cut}
use Rattle.scq_block.proofs.span.Span.cut.Statement.{statement}
use Rattle.scq_block.proofs.span.Span.cut.Code as code

abbrev stayed : Stays F.ended.signature.params F.ended.kept
stayed = (stay_dropped (plain (λ _. Span.the_row)) yes, (stay_dropped (plain (λ _. usize)) yes, tt))

pub cut_spec : {M : Type 1} → statement M
cut_spec 𝓤 𝓛 𝓜 𝓡 wired =
    let c = F.clauses 𝓛 𝓜.mem 𝓡.returns in
    let W = walk_of 𝓛 F.ended stayed c in
    let 𝓣 = tables 𝓤 𝓛.H 𝓜 𝓡 𝓡.env in
    proved_at 𝓛 F.ended stayed c 𝓜 𝓡
    (Goes-blank 𝓛 0 (plain (λ _. Span.the_row)) yes (λ κs x f. tt), (Goes-blank 𝓛 0 (plain (λ _. usize)) yes (λ κs x f. tt), tt))
    #self code.function (code.unfolded 𝓤 𝓛.H 𝓜 𝓡 wired) (λ z are.
    let a = z.0.3 in let vss = z.0.4 in let s = a.0 in let n = a.1.0 in
    let front : (Span.the_row).Denot = record { start = s.start; bytes = take n s.bytes } in
    let back : (Span.the_row).Denot = record { start = s.start +ₚ n; bytes = drop n s.bytes } in
    let Asked = n ≤ length s.bytes in
    qed 𝓛 ((raw (alive 𝓛 F.signature z.0.0 z.0.1) ⊛ ‵ (owns (types_at F.signature.params z.0.0) a vss)) ∷ raw (fact 𝓤 Asked) ∷ []) ∵
    move ! (1 ∷ []) $ heard ! Asked (λ asked. split ! $ move ! (1 ∷ []) $
    fsplit ! $ fsplit ! $ none_had ! vss.0 (λ is. move ! (1 ∷ []) $ lets ! $
    -- [the bytes; the tokens]
    regoal ! (λ (us : List Val). prop (WpFn 𝓤 𝓛.H 𝓣.C 𝓣.Λ code.function us (W.post z))) (λ i. is i ++ (are.1.0.0 i ++ [])) refl $
    enter ! 𝓣.C 𝓣.Λ code.function (none ∷ vint w64 n ∷ []) (W.post z) $ alloc_all ! (λ l. pass_all ! refl ((tt, tt), ((tt, record { fits = are.1.0.1 }), tt)) $
    sets ! (agg ! (no_more !)) refl (tt, tt) $
    sets ! (agg ! (no_more !)) refl (tt, tt) $
    sets ! (agg ! (and_then ! (get ! refl) (and_then ! (get ! refl) (no_more !)))) refl (tt, (tt, (tt, tt))) $
    use1 𝓛 (‵ (run_owns s.start front.bytes) ⊛ ‵ (run_owns back.start back.bytes)) (cut 𝓛 s.start s.bytes n asked) $ split ! $
    none_made ! $ fjoin ! $ move ! (1 ∷ []) $ none_made ! $ fjoin ! $ move ! (1 ∷ 0 ∷ []) $ two_made ! Span.the_row Span.the_row front back none none $
    returns ! (look_at ! 0 refl) $ free_all ! refl $
    suffices ! _ (ends_at 𝓛 F.ended stayed c z (two none none) (front, back) (tt, (tt, tt)) (tt, (tt, tt))) $ says ! (refl, refl, refl, refl) $
    nothing ! $ nothing ! $ fjoin ! $ nothing ! $ fjoin ! $ move ! (2 ∷ 0 ∷ 1 ∷ []) $ done !))))
