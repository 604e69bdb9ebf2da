use Rattle.std.proofs.Common.{◌+◌, ◌-◌, ◌∙◌, ap, arith}
use Rattle.std.proofs.lemmas.Nat.{mul-le}
use Rattle.noc_cycles.proofs.Common.{RouterPorts}
use Rattle.noc_cycles.proofs.LayoutLemmas.{places-are}
use Rattle.noc_cycles.proofs.pattern.Pattern.of.Goals as goal

pub overflow_mul-links : goal.overflow_mul-links
overflow_mul-links c = let few = mul-le c.args.vcs (c.ports-width.result - 1) 8 6 c.requires.vcs (omega (arith, c.ports-width.ensures.few)) in omega (arith, few, c.requires.vcs)

pub overflow_add-links : goal.overflow_add-links
overflow_add-links c = let few = mul-le c.args.vcs (c.ports-width.result - 1) 8 6 c.requires.vcs (omega (arith, c.ports-width.ensures.few)) in omega (arith, few, c.requires.vcs)

pub frame_of-requires-clause-all : goal.frame_of-requires-clause-all
frame_of-requires-clause-all c = let few = mul-le c.args.vcs (c.ports-width.result - 1) 8 6 c.requires.vcs (omega (arith, c.ports-width.ensures.few)) in omega (arith, few, c.requires.vcs)

pub of-requires : goal.of-requires
of-requires c =
    let links = c.ports_of.result.links in
    let few = mul-le (links.width + 1) links.vcs 7 8 (omega (arith, c.ports_of.ensures.width, c.ports-width.ensures.few)) (omega (arith, c.ports_of.ensures.vcs, c.requires.vcs)) in
    omega (arith, few)

pub returns : goal.returns
returns c = record {
  width = ap (λ (p : RouterPorts). p.links.width) c.of.ensures ∙ c.ports_of.ensures.width ∙ (let e = c.ports-width.ensures.local in omega (arith, e));
  vcs_are = ap (λ (p : RouterPorts). p.links.vcs) c.of.ensures ∙ c.ports_of.ensures.vcs;
  places_are = λ r few. places-are c.frame_of.result.deep c.frame_of.result.places c.args.places r c.requires.places c.frame_of.ensures.deep c.frame_of.ensures.places few;
}
