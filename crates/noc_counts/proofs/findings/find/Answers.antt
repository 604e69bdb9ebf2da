use Rattle.std.proofs.Common.{◌≡◌, ℕ, ◌/◌, ◌%◌, ◌∙◌, Option, ap, sym}
use Rattle.std.specs.Prelude.{option_map}
use Rattle.noc_view.specs.VerdictSets.{verdict_by}
use Rattle.noc_view.specs.declared.verdict.Verdict.{Verdict}
use Rattle.noc_sets.specs.Counts.{ByVerdict, verdict_sets}
use Rattle.noc_columns.specs.Picks.{channels_of}
use Rattle.noc_columns.specs.Supply.{digits_by, number_in}
use Rattle.noc_columns.specs.Words.{Numbering, word}
use Rattle.noc_columns.proofs.SupplyLemmas.{number-is}
use Rattle.noc_cycles.specs.Held.{held_at}
use Rattle.noc_counts.specs.Findings.{out_by, packet_by}
use Rattle.noc_counts.specs.Told.{told_at, told_by}
use Rattle.noc_counts.proofs.FindingLemmas.{verdict-word}
use Rattle.noc_counts.proofs.findings.find.Goals as goal

pub returns : goal.returns
returns c =
    let ports = c.args.pattern.now.table.ports in
    let n : Numbering = channels_of ports in
    let b = c.args.block.now in
    let w = c.args.work.now in
    let r = c.args.router in
    let i = c.args.channel in
    let index = c.index-index.ensures.is in
    let verdict : c.verdict_at-verdict.result ≡ verdict_by (verdict_sets (told_at n b w r)) i =
    c.verdict_at-verdict.ensures ∙ ap (λ (v : ByVerdict). verdict_by (verdict_sets v) r) c.words_at.ensures
    ∙ ap (λ j. verdict_by (verdict_sets (told_by (word j) b w)) r) index ∙ sym (verdict-word n r i c.requires.channel b w) in
    let packet = c.packet_by.ensures ∙ ap (λ (v : Verdict). packet_by v ((held_at ports b r).packet i)) verdict in
    let asked = c.place_of-asked.ensures ∙ ap (λ (o : Option ℕ). option_map (λ o. (o / ports.links.vcs, o % ports.links.vcs)) o) c.asked_of-asked.ensures in
    let port : c.number_of-owned.result.0 ≡ (held_at ports b r).out_port i =
    c.number_of-owned.ensures.port ∙ ap (λ j. number_in (digits_by (word j) b.grants.sends.port) r) index ∙ sym (number-is n r i b.grants.sends.port c.requires.channel) in
    let vc : c.number_of-owned.result.1 ≡ (held_at ports b r).out_vc i =
    c.number_of-owned.ensures.vc ∙ ap (λ j. number_in (digits_by (word j) b.grants.sends.vc) r) index ∙ sym (number-is n r i b.grants.sends.vc c.requires.channel) in
    λ x. record { verdict = verdict x; packet = packet x; out = (c.out_by.ensures ∙ (λ y. out_by (verdict y) (asked y) (port y, vc y))) x }
