use Rattle.std.proofs.Common.{◌≡◌, ℕ, ◌∙◌, ◌+◌, ◌*◌, ◌^◌, ◌<◌, add-one, ap, ap₂, arith, bit_or, sym}
use Rattle.std.specs.Prelude.{if◌then◌else◌}
use Rattle.noc_packet.specs.Set.{has_bit}
use Rattle.noc_columns.specs.Picks.{channels_of}
use Rattle.noc_columns.specs.Supply.{digits_by, number_in}
use Rattle.noc_columns.specs.Words.{Numbering, set_of, word}
use Rattle.noc_columns.proofs.SupplyLemmas.{member-is, number-is}
use Rattle.noc_cycles.specs.Held.{Held, held_at}
use Rattle.noc_counts.specs.Findings.{outs_of}
use Rattle.noc_counts.proofs.findings.granted_outs.Goals as goal

outs-next : (n vcs granted : ℕ) (h : Held)
    → bit_or (outs_of n vcs granted h) (if has_bit granted n then 2 ^ (h.out_port n * vcs + h.out_vc n) else 0) ≡ outs_of (n + 1) vcs granted h
outs-next n vcs granted h = ap (λ m. outs_of m vcs granted h) (sym (add-one n))

pub loop-channel-preserved : goal.loop-channel-preserved
loop-channel-preserved c =
    let ports = c.args.pattern.now.table.ports in
    let vcs = ports.links.vcs in
    let n : Numbering = channels_of ports in
    let b = c.args.block.now in
    let r = c.args.router in
    let i = c.loop-channel.channel in
    let few : i < n.size = c.loop-channel-test.true in
    let index = c.index-index.ensures.is in
    let given = set_of n r b.grants.granted in
    let test : c.has-is_granted.result ≡ has_bit given i =
    c.has-is_granted.ensures ∙ ap (λ j. has_bit (word j b.grants.granted) r) index ∙ sym (member-is n r i b.grants.granted few) in
    let port : c.number_of-number.result.0 ≡ (held_at ports b r).out_port i =
    c.number_of-number.ensures.port ∙ ap (λ j. number_in (digits_by (word j) b.grants.sends.port) r) index ∙ sym (number-is n r i b.grants.sends.port few) in
    let vc : c.number_of-number.result.1 ≡ (held_at ports b r).out_vc i =
    c.number_of-number.ensures.vc ∙ ap (λ j. number_in (digits_by (word j) b.grants.sends.vc) r) index ∙ sym (number-is n r i b.grants.sends.vc few) in
    let out : c.out_if-outs.result ≡ (if has_bit given i then 2 ^ ((held_at ports b r).out_port i * vcs + (held_at ports b r).out_vc i) else 0) =
    c.out_if-outs.ensures ∙ (λ x. if test x then 2 ^ (port x * vcs + vc x) else 0) in
    ap₂ bit_or c.loop-channel.invariant out ∙ outs-next i vcs given (held_at ports b r)

pub returns : goal.returns
returns c =
    let ports = c.args.pattern.now.table.ports in
    let last : c.loop-channel.channel ≡ (ports.links.width + 1) * ports.links.vcs = omega arith in
    c.loop-channel.invariant
    ∙ ap (λ m. outs_of m ports.links.vcs (set_of (channels_of ports) c.args.router c.args.block.now.grants.granted) (held_at ports c.args.block.now c.args.router)) last
