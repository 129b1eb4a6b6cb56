-- `of` makes a value of no bytes, whose ghost field is what the reference shows.
use mathlib.Core.Path.{refl, sym, subst}
use Prim.Native.Nat.{ℕ}
use mathlib.Core.List.{List, [], ◌∷◌, ◌++◌}
use mir.Val.{Val, vptr, vstruct, vcons, vnil}
use base.Logic.{ent}
use base.Fml.{Fml}
use prog.Wp.{WpFn}
use contract.Running.{tables}
use types.Kit.{‵, raw, ◌⊛◌, ◌$◌, ◌∵◌, !, qed, move, keep, split, join, fjoin, use0, suffices, done}
use types.Run.{no_more, and_then, returns, enter}
use types.Part.{agg}
use types.ByLocal.{alloc_all, pass_all, free_all, look_at, get, sets}
use denote.RattleType.{RattleType, owns}
use denote.Exit.{yes}
use denote.Shadow.{makes_shadow}
use denote.Signature.{types_at, type_at, plain}
use denote.Builtin.{RefOf}
use denote.Struct.Tuple.{Tuple}
use Rattle.std.specs.contracts.option.Option as option
use Rattle.scq_queue.specs.contracts.closing.Closed as closing
use denote.Steps.{nothing}
use denote.Triple.Entry.{alive, Res}
use denote.Triple.Walked.{says, Stays, stay_dropped, walk_of, ends_at, Goes-dropped}
use Rattle.std.proofs.raw_atomic.Walks.{proved_at}
use Rattle.scq_port.specs.contracts.port_buffer.PortBuffer as PB
use Rattle.scq_port.specs.contracts.port_buffer.PortPlace as PP
use Rattle.scq_port.specs.contracts.port_buffer.PortBufferBuffer.TheImpl as PBBuffer
use Rattle.std.specs.contracts.snapshot.Snapshot as snapshot
use Rattle.scq_queue.specs.contracts.pass.Pass as pass
use Rattle.scq_port.specs.contracts.ended.Ended.of.{ended, clauses}
use Rattle.scq_port.specs.contracts.ended.Ended.of.Key.{name as #self}
use Rattle.scq_port.proofs.ended.Ended.of.Statement.{statement}
use Rattle.scq_port.proofs.ended.Ended.of.Code as code

abbrev R : RattleType
R = Tuple (snapshot.the_row (pass.the_row PB.the_row PP.the_row PBBuffer.ghosts) ∷ option.the_row (closing.the_row PB.the_row PP.the_row PBBuffer.ghosts) ∷ [])

pub of_spec : {M : Type 1} → statement M
of_spec 𝓤 𝓛 𝓜 𝓡 wired =
    let H = 𝓛.H in let 𝓣 = tables 𝓤 H 𝓜 𝓡 𝓡.env in let c = clauses 𝓛 𝓜.mem 𝓡.returns in let fn = code.function in
    let hs : Stays ended.signature.params ended.kept = (stay_dropped (RefOf (0 ∷ []) tt (plain (λ _. R)) (λ _. tt)) yes, tt) in
    proved_at 𝓛 ended hs c 𝓜 𝓡 (Goes-dropped 𝓛 1 (RefOf (0 ∷ []) tt (plain (λ _. R)) (λ _. tt)) yes (λ κs x f. refl), tt) #self fn (code.unfolded 𝓤 H 𝓜 𝓡 wired) (λ z are.
    let b : ℕ = z.0.3.0.ref_ptr.0 in let o : ℕ = z.0.3.0.ref_ptr.1 in
    let Goes : List Val → Type 1 =
    λ us. ent 𝓤 ((walk_of 𝓛 ended hs c).pre ((z.0.0, z.0.1, z.0.2, z.0.3, (us, tt)), z.1)) (WpFn 𝓤 H 𝓣.C 𝓣.Λ fn (us ++ []) ((walk_of 𝓛 ended hs c).post ((z.0.0, z.0.1, z.0.2, z.0.3, (us, tt)), z.1))) in
    let walks : Goes (vptr b o ∷ []) =
    let v : Val = vstruct (vcons (vstruct vnil) vnil) in let r : Res ended.signature z.0.0 = record { made = record {}; its = z.0.3.0.now.0.value; closed = z.0.3.0.now.1 } in
    let O : Fml = (type_at ended.signature.result z.0.0).own_val r (v ∷ []) in
    let passed : Fml = owns (types_at ended.signature.params z.0.0) z.0.3 (vptr b o ∷ [], tt) in
    qed 𝓛 ((raw (alive 𝓛 ended.signature z.0.0 z.0.1) ⊛ ‵ passed) ∷ raw ((c z.0.0 z.0.3).requires z.1) ∷ []) ∵ split ! $ keep ! (0 ∷ []) $
    enter ! 𝓣.C 𝓣.Λ fn (vptr b o ∷ []) _ $ alloc_all ! (λ l. pass_all ! refl ((tt, tt), tt) $
    sets ! (agg ! (no_more !)) refl (tt, tt) $ sets ! (agg ! (and_then ! (get ! refl) (no_more !))) refl (tt, (tt, tt)) $
    returns ! (look_at ! 0 refl) $ free_all ! refl $
    use0 𝓛 (‵ O) (makes_shadow 𝓛 O ((λ vss. (tt, ((λ uss. (tt, tt)), tt))), tt) (((vstruct vnil ∷ [], tt), (refl, ((tt, (refl, tt)), tt))), tt)) $
    suffices ! _ (ends_at 𝓛 ended hs c ((z.0.0, z.0.1, z.0.2, z.0.3, (vptr b o ∷ [], tt)), z.1) v r (tt, tt) (tt, tt)) $ says ! (refl, refl) $
    nothing ! $ nothing ! $ fjoin ! $ join ! $ move ! (1 ∷ 0 ∷ []) $ join ! $ done !) in
    subst Goes (sym are.0.0) walks)
