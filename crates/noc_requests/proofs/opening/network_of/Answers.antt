use Rattle.std.proofs.Common.{◌≡◌, ◌∙◌, Option, Some, None, Ok, Err, Result, ap, inl, inr, refl, subst, sym}
use Rattle.std.proofs.lemmas.Result.{IfErr-at_err, IfOk-at_ok, err_from_is_err_and}
use Rattle.noc_files.specs.Gives.{Gives}
use Rattle.noc_files.specs.Traffic.{traffic_of}
use Rattle.noc_net.specs.Faults.{fault_of}
use Rattle.noc_net.specs.declared.net_fault.NetFault.{NetFault}
use Rattle.noc_net.specs.declared.net_fault.NetFault.TheVariants as net
use Rattle.noc_theory.specs.Good.{IsGoodSetup}
use Rattle.noc_theory.specs.Network.{Run}
use Rattle.noc_requests.specs.Asked.{lent_text, read_by}
use Rattle.noc_requests.specs.Ending.{Refuses}
use Rattle.noc_requests.specs.Run.{IsNetworkOf, IsUnmade, PacketsFault, bad_network, bad_traffic}
use Rattle.noc_requests.proofs.FaultLemmas.{if_fault, if_value, value_of}
use Rattle.noc_requests.proofs.opening.network_of.Goals as goal

abbrev refused : NetFault → Result Run NetFault
refused f = Err f

abbrev made : Run → Result Run NetFault
made n = Ok n

same-fault : (a b : NetFault) → refused a ≡ refused b → a ≡ b
same-fault a b e = cc e

pub returns-in_err-packets-clause-fault : goal.returns-in_err-packets-clause-fault
returns-in_err-packets-clause-fault c =
    let text = lent_text c.args.traffic in
    let refuses = Refuses (PacketsFault c.args.relation text) in
    let p = err_from_is_err_and c.from_residual.result c.from_residual.ensures.1 in
    rw (p.1, p.2) (IfErr-at_err refuses c.in_err-packets.was
    (if_fault _ c.packets_in.result c.map_err.result refuses c.map_err.ensures.cases
    (λ e d is names. rw names (refl, bad_traffic (subst (λ r. Gives (λ v. v.items) r (read_by traffic_of text)) is c.packets_in.ensures)))))

pub returns-clause-network : goal.returns-clause-network
returns-clause-network c =
    let text = lent_text c.args.traffic in
    let routes = c.args.relation in
    let packets = c.in_ok-packets.packets in
    let read = value_of _ c.packets_in.result c.map_err.result packets c.map_err.ensures.cases c.in_ok-packets.was in
    let said = subst (λ r. Gives (λ v. v.items) r (read_by traffic_of text)) read c.packets_in.ensures in
    if_value _ c.new.result c.map_err-2.result (λ n. IsNetworkOf routes c.args.depth text n.net) c.map_err-2.ensures.cases (λ n is.
    let whole = IfOk-at_ok (λ (u : Run). u ≡ record { net = record { relation = routes; depth = c.args.depth; packets = packets.items }; count = 0 }) is c.new.ensures.made in
    let items = ap (λ (u : Run). u.net.packets) whole in
    record {
      relation = ap (λ (u : Run). u.net.relation) whole;
      depth_is = ap (λ (u : Run). u.net.depth) whole;
      packets = said ∙ ap Ok (sym items);
      sound = ap (fault_of routes) items ∙ none n is (fault_of routes packets.items) refl;
      good = IfOk-at_ok (λ (u : Run). IsGoodSetup u.net) is c.new.ensures.good;
    })
  where
    none : (n : Run) → c.new.result ≡ made n → (first : Option NetFault) → fault_of c.args.relation c.in_ok-packets.packets.items ≡ first
        → fault_of c.args.relation c.in_ok-packets.packets.items ≡ None
    none n is None e = e
    none n is (Some f) e = let never : made n ≡ refused f = sym is ∙ c.new.ensures.fault f e in absurd (cc never)

pub returns-clause-fault : goal.returns-clause-fault
returns-clause-fault c =
    let text = lent_text c.args.traffic in
    let refuses = Refuses (PacketsFault c.args.relation text) in
    let packets = c.in_ok-packets.packets in
    let read = value_of _ c.packets_in.result c.map_err.result packets c.map_err.ensures.cases c.in_ok-packets.was in
    let said = subst (λ r. Gives (λ v. v.items) r (read_by traffic_of text)) read c.packets_in.ensures in
    if_fault _ c.new.result c.map_err-2.result refuses c.map_err-2.ensures.cases
    (λ e d is names. rw names (refl, bad_network said (why e is (fault_of c.args.relation packets.items) refl)))
  where
    why : (e : NetFault) → c.new.result ≡ refused e → (first : Option NetFault) → fault_of c.args.relation c.in_ok-packets.packets.items ≡ first
        → IsUnmade c.args.relation c.in_ok-packets.packets.items e
    why e is None sound = inr (IfErr-at_err (λ f. f ≡ net.Memory) is (c.new.ensures.memory sound), sound)
    why e is (Some f) first = inl (first ∙ ap Some (sym (same-fault e f (sym is ∙ c.new.ensures.fault f first))))
