-- `of` takes the bytes that `dislodge` hands back. Assumes `Logic`.
use Rattle.std.proofs.Common.{◌≡◌, ◌^◌, ◌<◌, List, [], ◌∷◌, ◌++◌, refl}
use Rattle.std.proofs.alloc.Calls.{Goes-blank}
use Rattle.std.proofs.raw_atomic.Walks.{proved_at}
use Rattle.std_alloc.proofs.vec.lodged.Vec+T+Lodged.dislodge.Met as callee
use Rattle.bytes.proofs.Walks.{none, none_made, tells}
use Rattle.bytes.proofs.Lodging.{byte_laws, Housed, housed-laws, Dislodges, at_dislodge, dislodge_goes, dislodge_gives}
use mir.Syntax.{w64}
use mir.Val.{Val, vint}
use prog.Wp.{WpFn}
use contract.Monad.{fact}
use contract.Running.{tables, tables_of}
use sound.WpLaws.{fm_of}
use types.Kit.{‵, raw, ◌⊛◌, later, given, prop, ◌$◌, ◌∵◌, !, qed, move, drop as lets, use1, split, fsplit, fjoin, learn, await, regoal, suffices, done}
use types.Part.{agg}
use types.Run.{enter, returns, of_opd, and_then, no_more}
use types.ByLocal.{alloc_all, pass_all, free_all, look_at, get, sets, lands_as}
use denote.Builtin.{u8}
use denote.Exit.{yes}
use denote.RattleType.{owns}
use denote.Signature.{plain, types_at}
use denote.Steps.{nothing, heard}
use denote.Triple.Call.{calls_at}
use denote.Triple.Entry.{alive}
use denote.Triple.Walked.{says, Stays, stay_dropped, walk_of, ends_at}
use Rattle.bytes.specs.Ownership.{run_owns}
use Rattle.scq_block.specs.contracts.span.Span as Span
use Rattle.scq_block.specs.contracts.span.Span.of as F
use Rattle.scq_block.specs.contracts.span.Span.of.Key.{name as #self}
use Rattle.scq_block.proofs.span.Span.of.Statement.{statement}
use Rattle.scq_block.proofs.span.Span.of.Code as code

abbrev stayed : Stays F.ended.signature.params F.ended.kept
stayed = (stay_dropped (plain (λ _. Housed)) yes, tt)

pub of_spec : {M : Type 1} → statement M
unfolding tables_of
of_spec 𝓤 𝓛 𝓜 𝓡 wired =
    let c = F.clauses 𝓛 𝓜.mem 𝓡.returns in
    let W = walk_of 𝓛 F.ended stayed c in
    let 𝓣 = tables_of 𝓤 𝓛.H 𝓜 (tables 𝓤 𝓛.H 𝓜 𝓡 𝓡.env) in
    let called = callee.met 𝓤 𝓛 𝓜 𝓡 (code.calls-std_alloc::vec::lodged::Vec+T+Lodged::dislodge 𝓡.env wired) u8 byte_laws in
    proved_at 𝓛 F.ended stayed c 𝓜 𝓡 (Goes-blank 𝓛 0 (plain (λ _. Housed)) yes (λ κs x f. tt), tt) #self code.function (code.unfolded 𝓤 𝓛.H 𝓜 𝓡 wired) (λ z are.
    let v = z.0.3.0 in
    let r : (Span.the_row).Denot = record { start = v.ptr; bytes = v.items } in
    let Asked = 0 < v.len in
    qed 𝓛 ((raw (alive 𝓛 F.signature z.0.0 z.0.1) ⊛ ‵ (owns (types_at F.signature.params z.0.0) z.0.3 z.0.4)) ∷ raw (fact 𝓤 Asked) ∷ []) ∵
    move ! (1 ∷ []) $ heard ! Asked (λ asked. split ! $ move ! (1 ∷ []) $
    fsplit ! $ tells ! Housed housed-laws v z.0.4.0 (λ u is good. move ! (1 ∷ []) $ lets ! $
    let y = at_dislodge 𝓛 𝓜.mem 𝓡.returns v u in
    let D = Dislodges 𝓛 𝓜.mem 𝓡.returns in
    -- [the vector; the tokens]
    regoal ! (λ (us : List Val). prop (WpFn 𝓤 𝓛.H 𝓣.C 𝓣.Λ code.function (us ++ []) (W.post z))) is refl $
    enter ! 𝓣.C 𝓣.Λ code.function (u ∷ []) (W.post z) $ alloc_all ! (λ l. pass_all ! refl (good, tt) $
    sets ! (of_opd ! (get ! refl)) refl good $ use1 𝓛 (raw (D.pre y)) (dislodge_goes 𝓛 𝓜.mem 𝓡.returns v u) $
    calls_at ! (fm_of 𝓤 𝓛.H 𝓛.laws 𝓣) D called y (and_then ! (get ! refl) (no_more !)) (λ w.
    use1 𝓛 (later (given ((w ≡ vint w64 v.len) × (v.len < 2 ^ 64)) (‵ (run_owns v.ptr v.items))))
    (dislodge_gives 𝓛 𝓜.mem 𝓡.returns v u asked w) $ await ! tt $ learn ! (λ got.
    lands_as ! got.0 refl (tt, record { fits = got.1 }) $
    sets ! (agg ! (no_more !)) refl (tt, tt) $
    none_made ! $ fjoin ! $
    returns ! (look_at ! 0 refl) $ free_all ! refl $
    suffices ! _ (ends_at 𝓛 F.ended stayed c z none r (tt, tt) (tt, tt)) $ says ! (refl, refl) $
    nothing ! $ nothing ! $ fjoin ! $ move ! (2 ∷ 0 ∷ 1 ∷ []) $ done !))))))
