use Rattle.std.proofs.Common.{◌∙◌, ap, sym, arith}
use Rattle.std.specs.Str.{bytes_eq}
use Rattle.noc_files.proofs.PortNameLemmas.{port_found, port_none}
use Rattle.noc_files.proofs.ports.port_named.Goals as goal

pub returns-then-eq : goal.returns-then-eq
returns-then-eq c =
    let same = ap (bytes_eq c.args.name.now) (sym (c.as_bytes.ensures.value ∙ c.known_name.ensures.text)) ∙ sym c.if-eq.ensures in
    sym (port_found c.args.shape.now c.args.name.now c.loop-port.port (omega (arith, c.ports-port-end.ensures.value)) c.loop-port.invariant same)

pub returns : goal.returns
returns c = sym (port_none c.args.shape.now c.args.name.now (λ j known. c.loop-port.invariant j (omega (arith, c.ports-port-end.ensures.value))))
