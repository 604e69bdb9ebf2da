-- A new router shows the opening state.
use Rattle.std.proofs.Common.{◌≡◌, ℕ, zero, suc, ◌+◌, ◌-◌, ◌*◌, ◌/◌, ◌%◌, ◌<◌, true, List, [], ◌∷◌, ◌++◌, map, length, get_or, replicate, Option, Some, None, refl, ap, sym, ◌∙◌, arith, length-append}
use Rattle.std.specs.Prelude.{filter, nat_eq}
use Rattle.noc_vc.specs.Output.{link_output}
use Rattle.noc_view.specs.Verdict.{opening_arbiters}
use Rattle.noc_theory.proofs.Common.{enumerate_from, eq-eqb, div-add-mod', length-replicate, get_or-replicate, below, tabulate, Has, nodes, ports, local_port, tabulate-from_each, Packet, flit_at, Channel, Link, Eject, idle_input, ejection_output, View, opening_view, view_output, view_at, site_at, starts_at, ends_at, seen_flits, seen_input, seen_output, seen_sending, has_flit_at_source, counts_before, Setup, State, Located, Place, Source, size, arriving, leaving, packet_at, tail_place, flits_of, is_at_source, is_in, is_on, count_in, count_on, credit_of, first_waiting, out_cycle, opening_state, state_at, IsSeen}
use Rattle.noc_theory.proofs.worms.MemberLemmas.{Has-kept, filter-all, list_any-from}
use Rattle.noc_theory.proofs.worms.OpeningLemmas.{at-source, sound-opening}
use Rattle.noc_theory.proofs.worms.PlaceLemmas.{flit-there}
use Rattle.noc_theory.proofs.worms.StateWordLemmas.{last_of}
use Rattle.noc_theory.proofs.worms.WormRecordLemmas.{valid-last, valid-first}
use Rattle.noc_theory.proofs.verdicts.CommitEndLemmas.{map-each, ends-here}
use Rattle.noc_theory.proofs.verdicts.CommitInputLemmas.{find-empty}
use Rattle.noc_theory.proofs.join.OpeningStateLemmas.{opening-none}
use Rattle.noc_theory.proofs.join.OrderedLemmas.{IsGood}
use Rattle.noc_theory.proofs.join.PlaceViewLemmas.{OutputCase, ejects, links, output-case}
use Rattle.noc_theory.proofs.injection.QueueLemmas.{in-starts}
use Rattle.noc_theory.proofs.join.ViewLemmas.{is_view_at}

get_or-front : {X : Type 0} (xs ys : List X) (i : ℕ) (d : X) → i < length xs → get_or (xs ++ ys) i d ≡ get_or xs i d
get_or-front [] ys i d l = absurd (omega arith)
get_or-front (x ∷ xs) ys zero d l = refl
get_or-front (x ∷ xs) ys (suc i) d l = get_or-front xs ys i d (omega arith)

get_or-back : {X : Type 0} (xs ys : List X) (i : ℕ) (d : X) → get_or (xs ++ ys) (length xs + i) d ≡ get_or ys i d
get_or-back [] ys i d = ap (λ k. get_or ys k d) (omega arith)
get_or-back (x ∷ xs) ys i d = let e : length (x ∷ xs) + i ≡ suc (length xs + i) = omega arith in ap (λ k. get_or (x ∷ xs ++ ys) k d) e ∙ get_or-back xs ys i d

module _ (net : Setup) (good : IsGood net) (r : ℕ) (l : r < nodes net.relation.grid) where
  abbrev v : View
  v = opening_view (site_at net r) (starts_at net r) (ends_at net r)

  in-none : (c : Channel) → filter (λ (f : Located). is_in c f.place) (opening_state net).at ≡ []
  unfolding opening_state
  in-none c = find-empty (λ (f : Located). is_in c f.place) (opening_state net).at (opening-none (λ (f : Located). is_in c f.place) (λ p i. refl) (enumerate_from 0 net.packets))

  on-none : (c : Channel) → filter (λ (f : Located). is_on c f.place) (opening_state net).at ≡ []
  unfolding opening_state
  on-none c = find-empty (λ (f : Located). is_on c f.place) (opening_state net).at (opening-none (λ (f : Located). is_on c f.place) (λ p i. refl) (enumerate_from 0 net.packets))

  flits : (o : Option Channel) → [] ≡ seen_flits net (opening_state net) o
  flits None = refl
  flits (Some c) = sym (ap (map (λ (f : Located). flit_at (packet_at net f.packet) f.packet f.index)) (in-none c))

  input : (i : ℕ) (o : Option Channel) → idle_input ≡ seen_input net (opening_state net) r i o
  unfolding opening_state
  input i None = refl
  input i (Some c) = refl

  credit : (c : Channel) → credit_of net (opening_state net) c ≡ net.depth
  unfolding opening_state
  credit c = ap (λ k. net.depth - k - count_in net (opening_state net) c - 0) (ap length (on-none c)) ∙ ap (λ k. net.depth - 0 - k - 0) (ap length (in-none c)) ∙ omega arith

  link-is : (a b w : ℕ) → link_output net.depth ≡ seen_output net (opening_state net) r (Link a b w)
  unfolding opening_state
  link-is a b w = ap (λ k. record (link_output net.depth) { credit = Some k }) (sym (credit (Link a b w)))

  eject-is : (a w : ℕ) → ejection_output ≡ seen_output net (opening_state net) r (Eject a w)
  unfolding opening_state
  eject-is a w = refl

  outputs-length : length v.outputs ≡ size net
  outputs-length =
      length-append (replicate (local_port net.relation.grid * net.relation.vcs) (link_output net.depth)) (replicate net.relation.vcs ejection_output)
      ∙ (let a : length (replicate (local_port net.relation.grid * net.relation.vcs) (link_output net.depth)) ≡ local_port net.relation.grid * net.relation.vcs = length-replicate (local_port net.relation.grid * net.relation.vcs) (link_output net.depth) in
      let b : length (replicate net.relation.vcs ejection_output) ≡ net.relation.vcs = length-replicate net.relation.vcs ejection_output in
      let e = product (local_port net.relation.grid) net.relation.vcs in
      omega (arith, a, b, e))
    where
      product : (a b : ℕ) → (a + 1) * b ≡ a * b + b
      product a b = grind arith

  output-at : (o : ℕ) → o < size net → view_output v o ≡ seen_output net (opening_state net) r (leaving net r o)
  output-at o u = by (output-case net good r o u)
    where
      n : ℕ
      n = local_port net.relation.grid * net.relation.vcs

      len : length (replicate (local_port net.relation.grid * net.relation.vcs) (link_output net.depth)) ≡ local_port net.relation.grid * net.relation.vcs
      len = length-replicate (local_port net.relation.grid * net.relation.vcs) (link_output net.depth)

      by : OutputCase net good r o → view_output v o ≡ seen_output net (opening_state net) r (leaving net r o)
      by (ejects p e) =
          let is : length (replicate (local_port net.relation.grid * net.relation.vcs) (link_output net.depth)) + o % net.relation.vcs ≡ o
          = ap (λ k. k + o % net.relation.vcs) (len ∙ ap (λ k. k * net.relation.vcs) (sym p)) ∙ div-add-mod' o net.relation.vcs in
          ap (λ k. get_or v.outputs k ejection_output) (sym is)
          ∙ get_or-back (replicate (local_port net.relation.grid * net.relation.vcs) (link_output net.depth)) (replicate net.relation.vcs ejection_output) (o % net.relation.vcs) ejection_output
          ∙ get_or-replicate net.relation.vcs (o % net.relation.vcs) ejection_output ejection_output (Rattle.noc_theory.proofs.join.PlaceViewLemmas.mod-below net good o)
          ∙ eject-is r (o % net.relation.vcs)
          ∙ sym (ap (seen_output net (opening_state net) r) e)
      by (links p e) =
          let low : o < local_port net.relation.grid * net.relation.vcs = (Rattle.std.proofs.Math.Nat.div-lt_iff_lt-mul {k = net.relation.vcs} {x = o} {y = local_port net.relation.grid} good.relation.table.some_vcs).0 p in
          get_or-front (replicate (local_port net.relation.grid * net.relation.vcs) (link_output net.depth)) (replicate net.relation.vcs ejection_output) o ejection_output (omega (arith, low, len))
          ∙ get_or-replicate (local_port net.relation.grid * net.relation.vcs) o (link_output net.depth) ejection_output low
          ∙ link-is r (o / net.relation.vcs) (o % net.relation.vcs)
          ∙ sym (ap (seen_output net (opening_state net) r) e)

  arbiters : v.arbiters ≡ Rattle.noc_theory.specs.Network.arbiters_at net (opening_state net) r
  unfolding opening_state
  arbiters = sym (get_or-replicate (nodes net.relation.grid) r (opening_arbiters (ports net.relation.grid) net.relation.vcs) (record { channels = []; inputs = []; outputs = [] }) l)

  waits : (one : ℕ × Packet) → Has one (starts_at net r) → has_flit_at_source net (opening_state net) one ≡ true
  waits one h =
      let k = in-starts net (opening_state net) r one h in
      let valid = valid-first net good.built one.0 k.0 in
      let keyed = (sound-opening net good.built good.wired).keyed in
      let f : Located = record { packet = one.0; index = 0; place = Rattle.noc_theory.specs.Network.place_of_flit net (opening_state net) one.0 0 } in
      let m = Has-kept (λ (g : Located). nat_eq one.0 g.packet) f (opening_state net).at (flit-there net (opening_state net) keyed one.0 0 valid) (eq-eqb one.0 one.0 refl) in
      list_any-from (λ (g : Located). is_at_source g.place) (flits_of net (opening_state net) one.0) f m (ap is_at_source (at-source net one.0 0 valid))

  sending : (o : Option ℕ) → None ≡ seen_sending net (opening_state net) r o
  unfolding opening_state
  sending None = refl
  sending (Some p) = refl

  shows : IsSeen net (opening_state net) r v
  shows = record {
    site = refl;
    n_buffers = length-replicate (size net) [];
    n_inputs = length-replicate (size net) idle_input;
    n_outputs = outputs-length;
    buffer = λ i u. get_or-replicate (size net) i [] [] u ∙ flits (arriving net r i);
    input = λ i u. get_or-replicate (size net) i idle_input idle_input u ∙ input i (arriving net r i);
    output = output-at;
    arbiters = arbiters;
    queue = filter-all (has_flit_at_source net (opening_state net)) (starts_at net r) waits;
    sending = sending (first_waiting net (opening_state net) r);
    ends =
        map-each (λ p. (p, None)) (λ p. (p, out_cycle (tail_place net (opening_state net) p))) (ends_at net r)
        (λ p h. ap (λ (k : Option ℕ). (p, k)) (sym (ap out_cycle (at-source net p (last_of net p) (valid-last net good.built p (ends-here net r p h).0)))));
    misfits = refl;
  }

  zeros : (i : ℕ) → replicate 10 0 ≡ counts_before net 0 r i
  unfolding tabulate below
  zeros i = refl

  counts : replicate (size net) (replicate 10 0) ≡ tabulate (size net) (counts_before net 0 r)
  counts = tabulate-from_each (size net) (counts_before net 0 r) (replicate (size net) (replicate 10 0)) [] (length-replicate (size net) (replicate 10 0)) (λ i u. get_or-replicate (size net) i (replicate 10 0) [] u ∙ zeros i)

  pub opens : opening_view (site_at net r) (starts_at net r) (ends_at net r) ≡ view_at net 0 r
  unfolding state_at
  opens = is_view_at net 0 r v shows refl counts refl (omega arith) refl refl
