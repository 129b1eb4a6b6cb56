use Rattle.std.proofs.Common.{◌≡◌, ◌<◌, ◌+◌, ◌++◌, [], ◌∷◌, length, replicate, refl, sym, ◌∙◌, ap, append-nil}
use Rattle.std.specs.Prelude.{Option, Some, None, slice_index_or}
use Rattle.scq_port.specs.Exports.{PortStanding}
use Rattle.scq_c.specs.declared.c_port.CPort.{CPort}
use Rattle.scq_c.specs.Exports.{ports_of}
use Rattle.scq_c.proofs.Handed.{port_at, ports_set, memories_same, closed_ports, last_closed, last_filled, one_handed, found_at, length_filled, handed}
use Rattle.scq_c.proofs.opening.fill.Goals as goal

pub loop-port-init : goal.loop-port-init
loop-port-init c =
    let none = closed_ports c.args.ports.now c.requires.closed ∙ ap (λ n. replicate n None) (sym c.requires.count) ∙ sym (append-nil _) in
    (refl, ([], append-nil _, none))

pub put-requires : goal.put-requires
put-requires c =
    let inv = c.loop-port.invariant in
    let one : c.loop-port.boxes.len ≡ c.len.result + 1 = sym c.in-Some.ensures.cases ∙ ap (λ n. n + 1) (sym c.len.ensures) in
    let low : c.len.result < length c.loop-port.ports = length_filled c.loop-port.ports c.loop-port.boxes.len c.len.result inv.1.0 inv.1.2 one in
    let old = slice_index_or c.loop-port.ports c.len.result c.index-ports-len.result in
    let here = found_at c.loop-port.ports c.len.result c.index-ports-len.result low c.index-ports-len.is in
    let at = port_at c.loop-port.ports c.len.result old here in
    let none : Some old.handle.port ≡ Some None =
    sym at ∙ last_closed c.loop-port.boxes.len c.len.result (ports_of c.loop-port.ports) inv.1.0 inv.1.2 one in
    let same : old.handle.port ≡ None = cc in
    record { closed = same }

pub loop-port-preserved : goal.loop-port-preserved
loop-port-preserved c =
    let inv = c.loop-port.invariant in
    let out = inv.1.0 in
    let one : c.loop-port.boxes.len ≡ c.len.result + 1 = sym c.in-Some.ensures.cases ∙ ap (λ n. n + 1) (sym c.len.ensures) in
    let old = slice_index_or c.loop-port.ports c.len.result c.index-ports-len.result in
    let next : CPort = record old { handle = c.put.new.handle } in
    let low : c.len.result < length c.loop-port.ports = length_filled c.loop-port.ports c.loop-port.boxes.len c.len.result inv.1.0 inv.1.2 one in
    let here = found_at c.loop-port.ports c.len.result c.index-ports-len.result low c.index-ports-len.is in
    let left = one_handed handed c.args.boxes.items c.loop-port.boxes.items c.pop.new.self.items c.in-Some.port out inv.1.1 c.in-Some.ensures.items in
    let have = ports_set c.loop-port.ports c.len.result next
    ∙ last_filled c.loop-port.boxes.len c.len.result (ports_of c.loop-port.ports) out c.put.new.handle.port inv.1.2 one
    ∙ ap (λ (o : Option PortStanding). replicate c.len.result None ++ o ∷ out) c.put.ensures
    ∙ ap (λ n. replicate n None ++ Some c.in-Some.port.value ∷ out) c.len.ensures in
    (memories_same c.loop-port.ports c.len.result old next here refl ∙ inv.0, (Some c.in-Some.port.value ∷ out, left, have))
