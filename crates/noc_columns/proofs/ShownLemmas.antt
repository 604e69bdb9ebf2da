-- What the ports of a router pick is the set of its picked channels.
use Rattle.std.proofs.Common.{◌≡◌, ℕ, ◌+◌, ◌*◌, ◌^◌, ◌<◌, true, List, ap, ap₂, sym, ◌∙◌, subst, slice_index}
use Rattle.std.specs.Prelude.{not, nat_eq}
use Rattle.std.proofs.lemmas.Bool.{not-true}
use Rattle.noc_packet.specs.Set.{has_bit}
use Rattle.noc_sets.specs.Column.{RouterMarks}
use Rattle.noc_sets.specs.Turns.{in_turn}
use Rattle.noc_sets.proofs.TurnLemmas.{first-among}
use Rattle.noc_columns.specs.Picks.{HasPick, HavePicked, IsPicked, SendByVcs, channels_of, port_of}
use Rattle.noc_columns.specs.Supply.{digits_by, number_in}
use Rattle.noc_columns.specs.Switch.{PickVcs, ShowsPicks, ShowsSends, picks_in}
use Rattle.noc_columns.specs.Words.{set_of}
use Rattle.noc_columns.specs.declared.picks.Picks.{Picks}
use Rattle.noc_columns.specs.declared.ports.RouterPorts.{RouterPorts}
use Rattle.noc_columns.specs.declared.supply.Digits.{Digits}
use Rattle.noc_columns.specs.declared.supply.Sends.{Sends}
use Rattle.noc_columns.proofs.PastLemmas.{first-some}
use Rattle.noc_columns.proofs.PortLemmas.{lowest-alone, member-below}
use Rattle.noc_columns.proofs.RouterLemmas.{part-is, port-members}
use Rattle.noc_columns.proofs.SupplyLemmas.{number}

-- a channel's number is that in its port
pub number-part : (ports : RouterPorts) (r : ℕ) (d : Digits (List ℕ)) (p v : ℕ) → p < ports.links.width + 1 → v < ports.links.vcs
    → number_in (digits_by (set_of (port_of ports p) r) d) v ≡ number_in (digits_by (set_of (channels_of ports) r) d) (p * ports.links.vcs + v)
number-part ports r d p v l k = λ i. number (sym (part-is ports r d.ones p v l k) i) (sym (part-is ports r d.twos p v l k) i) (sym (part-is ports r d.fours p v l k) i)

-- what is picked of the ready channels sends by a virtual channel that a port has
pub picked-vcs : (ports : RouterPorts) (ready ahead picked past last : List ℕ) (sends : Sends (List ℕ)) (picks : Picks)
    → ((r : ℕ) → HavePicked ports r ready ahead picked past last sends picks) → SendByVcs ports ready sends.vc → PickVcs ports picks
picked-vcs ports ready ahead picked past last sends picks have few r p within l is =
    let n = port_of ports p in
    let some = not-true (nat_eq (set_of n r ready) 0) (sym ((have r).any p l) ∙ is) in
    let found = first-some ports.links.vcs (set_of n r ready) (set_of n r ahead) (port-members ports r ready p) some in
    let c = found.0 in
    let pick = (have r).has p c l found.1 (ap (λ s. has_bit s c) ((have r).first p l).first ∙ found.2) in
    subst (λ v. v < ports.links.vcs) (sym (pick.vc ∙ number-part ports r sends.vc p c l found.1))
    (few r (p * ports.links.vcs + c) within (part-is ports r ready p c l found.1 ∙ first-among (set_of n r ready) (set_of n r ahead) c found.2))

module _ (ports : RouterPorts) (r : ℕ) (ready ahead picked past last : List ℕ) (sends : Sends (List ℕ)) (picks : Picks) (m : RouterMarks)
    (first : (p : ℕ) → p < ports.links.width + 1 → IsPicked (port_of ports p) r ready ahead picked past)
    (each : (p c : ℕ) → p < ports.links.width + 1 → c < ports.links.vcs → has_bit (set_of (port_of ports p) r picked) c ≡ true → HasPick (port_of ports p) r p c last sends picks)
    (any : (p : ℕ) → p < ports.links.width + 1 → has_bit (slice_index picks.any p) r ≡ not (nat_eq (set_of (port_of ports p) r ready) 0))
    (shows : ShowsSends (ports.links.width + 1) ports.links.vcs (set_of (channels_of ports) r picked) (number_in (digits_by (set_of (channels_of ports) r) sends.port)) (number_in (digits_by (set_of (channels_of ports) r) sends.vc)) m) where
  pub shown-picks : ShowsPicks (ports.links.width + 1) ports.links.vcs (set_of (channels_of ports) r picked) (has_bit (set_of (channels_of ports) r last)) m (picks_in picks r)
  shown-picks = record {
    each = λ p v l k is.
        let i = p * ports.links.vcs + v in
        let pick = each p v l k (sym (part-is ports r picked p v l k) ∙ is) in
        let port = pick.port ∙ number-part ports r sends.port p v l k in
        let vc = pick.vc ∙ number-part ports r sends.vc p v l k in
        record {
          any = pick.any;
          tail = pick.tail ∙ sym (part-is ports r last p v l k);
          port = subst (λ n. n < ports.links.width + 1) (sym port) (shows.port i is);
          vc = subst (λ n. n < ports.links.vcs) (sym vc) (shows.vc i is);
          taken = shows.taken i is ∙ ap₂ (λ a b. 2 ^ (a * ports.links.vcs + b)) (sym port) (sym vc);
          to_port = λ q b. shows.to_port i q is b ∙ ap (λ n. nat_eq n q) (sym port);
        };
    some = λ p l is.
        let n = port_of ports p in
        let some = not-true (nat_eq (set_of n r ready) 0) (sym (any p l) ∙ is) in
        let found = first-some ports.links.vcs (set_of n r ready) (set_of n r ahead) (port-members ports r ready p) some in
        (found.0, found.1, part-is ports r picked p found.0 l found.1 ∙ ap (λ s. has_bit s found.0) (first p l).first ∙ found.2);
    alone = λ p v w l k b is other.
        let n = port_of ports p in
        let one = λ (c : ℕ) (d : c < ports.links.vcs) (e : has_bit (set_of (channels_of ports) r picked) (p * ports.links.vcs + c) ≡ true).
        ap (λ s. has_bit s c) (sym (first p l).first) ∙ sym (part-is ports r picked p c l d) ∙ e in
        lowest-alone (in_turn (set_of n r ready) (set_of n r ahead)) v w (one v k is) (one w b other);
    below = λ i is. member-below (channels_of ports) r picked i is;
  }
