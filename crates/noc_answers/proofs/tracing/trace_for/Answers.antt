use Rattle.std.proofs.Common.{◌≡◌, ◌∙◌, None, ap, inr, length, refl, rules, sym}
use Rattle.noc_faults.specs.declared.fault.Fault.TheVariants as fault
use Rattle.noc_net.specs.declared.net_fault.NetFault.TheVariants as net
use Rattle.noc_requests.specs.Asked.{lent_files}
use Rattle.noc_requests.specs.Ending.{Refuses}
use Rattle.noc_requests.specs.Options.{packet_option_fault}
use Rattle.noc_requests.specs.Answer.{TextsFault, in_packets, no_packet}
use Rattle.noc_requests.specs.Run.{bad_network}
use Rattle.noc_requests.proofs.FaultLemmas.{if_fault, if_value}
use Rattle.noc_answers.proofs.tracing.trace_for.Goals as goal

pub returns-in-Some-clause-fault : goal.returns-in-Some-clause-fault
returns-in-Some-clause-fault c =
    let opens = c.requires.opens in
    (refl, no_packet opens.before opens.network (ap (packet_option_fault c.args.files.now.command) (sym c.packets.ensures.value) ∙ sym c.in-Some.ensures))

pub returns-clause-packet : goal.returns-clause-packet
returns-clause-packet c =
    let option = packet_option_fault c.args.files.now.command in
    if_value _ c.new.result c.map_err.result (λ _. option (length c.args.network.now.net.packets) ≡ None) c.map_err.ensures.cases
    (λ t is. ap option (sym c.packets.ensures.value) ∙ sym c.in_default.ensures)

pub returns-clause-fault : goal.returns-clause-fault
returns-clause-fault c =
    let opens = c.requires.opens in
    if_fault _ c.new.result c.map_err.result (Refuses (TextsFault (lent_files c.args.files.now))) c.map_err.ensures.cases (λ e d is names.
    let same : d ≡ fault.Network net.Memory = search rules in
    rw same (refl, in_packets c.requires.runs opens.before (bad_network opens.network.packets (inr (refl, opens.network.sound)))))
