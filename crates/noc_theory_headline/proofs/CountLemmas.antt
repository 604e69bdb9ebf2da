-- Each Take, Decide and Put is one cycle more of a router and its ports, and no
-- router goes past the limit.
use Rattle.std.proofs.Common.{◌≡◌, ℕ, ◌+◌, ◌<◌, ◌≤◌, Bool, true, false, List, [], ◌∷◌, length, Some, refl, ap, sym, ◌∙◌, subst, arith}
use Rattle.std.specs.Prelude.{nat_eq, if◌then◌else◌}
use Rattle.std.proofs.lemmas.Option.{get_or_from_slice_get, slice_get_within}
use Rattle.std.proofs.lemmas.Bool.{eqb-true}
use Rattle.noc_topo.specs.Lists.{tabulate, one_if}
use Rattle.noc_topo.specs.Shape.{nodes}
use Rattle.noc_topo.proofs.ListLemmas.{length-tabulate, get_or-tabulate}
use Rattle.noc_theory.specs.declared.event.Event.{Event}
use Rattle.noc_theory.specs.declared.event.Event.TheVariants.{Take, Decide, Put}
use Rattle.noc_theory.specs.Core.{CoreState, Post, after_events, happens, is_linked, is_ready, link_ports, opening_core, post_at, resting_post, wires_in_flight}
use Rattle.noc_theory.specs.Lockstep.{view_at}
use Rattle.noc_theory.specs.Network.{Run, Setup}
use Rattle.noc_theory.specs.InStep.{IsInStep, cycle_of, cycle_put, cycle_taken}
use Rattle.noc_theory.specs.Order.{decides, happening, is_decide, is_put, is_take, puts, takes}
use Rattle.noc_theory.proofs.runs.CoreLemmas.{happens_in_step, moves}
use Rattle.noc_theory.proofs.runs.EventLemmas.{Moves}
use Rattle.noc_theory.proofs.runs.LimitLemmas.{decides-below}
use Rattle.noc_theory.proofs.runs.OrderLemmas.{net-happens, one_event}
use Rattle.noc_theory.proofs.runs.PostLemmas.{has_none}

-- the cycle at which a router is seen, and for each of its links that of its next
-- Take and of its next Put
pub record Base : Type 0 where
  pub seen : ℕ → ℕ
  pub next_take : ℕ → ℕ → ℕ
  pub next_put : ℕ → ℕ → ℕ

-- the cycles at which a router and its links are seen, all a number of cycles after a count
abbrev pub base_after : ℕ → List Event → Base
base_after count events = record { seen = λ r. count + decides r events; next_take = λ r port. count + takes r port events; next_put = λ r port. count + 1 + puts r port events }

-- router r is there, and not past the limit
pub record StandsAt (limit : ℕ) (net : Setup) (b : Base) (r : ℕ) (post : Post) : Type 0 where
  pub seen : cycle_of post ≡ b.seen r
  pub low : b.seen r ≤ limit
  pub taken : (port : ℕ) → is_linked net r port ≡ true → cycle_taken port post ≡ b.next_take r port
  pub put : (port : ℕ) → is_linked net r port ≡ true → cycle_put port post ≡ b.next_put r port

abbrev pub AllStandAt : ℕ → Setup → CoreState → Base → Type 0
AllStandAt limit net k b = (r : ℕ) (post : Post) → post_at k r ≡ Some post → StandsAt limit net b r post

-- the base after one event
abbrev base_with : Base → Event → Base
base_with b e = record {
  seen = λ r. b.seen r + one_if (is_decide r e);
  next_take = λ r port. b.next_take r port + one_if (is_take r port e);
  next_put = λ r port. b.next_put r port + one_if (is_put r port e);
}

-- the base after many events
abbrev base_further : Base → List Event → Base
base_further b es = record {
  seen = λ r. b.seen r + decides r es;
  next_take = λ r port. b.next_take r port + takes r port es;
  next_put = λ r port. b.next_put r port + puts r port es;
}

module _ (limit : ℕ) (net : Setup) where
  happens-at : (k : CoreState) (e : Event) (b : Base) → k.net ≡ net → IsInStep limit k → AllStandAt limit net k b → is_ready limit k e ≡ true → AllStandAt limit net (happens k e) (base_with b e)
  happens-at k e b same sound there ready r post at = stands
    where
      first : (before : Post) × (post_at k r ≡ Some before) × Moves k.net r e before post
      first = moves limit k e r post sound ready at

      moved : Moves net r e first.0 post
      moved = subst (λ (n : Setup). Moves n r e first.0 post) same first.2

      was : StandsAt limit net b r first.0
      was = there r first.0 first.1

      low_by : (e : Event) → is_ready limit k e ≡ true → b.seen r + one_if (is_decide r e) ≤ limit
      low_by (Take x p) can = let l = was.low in omega arith
      low_by (Put x p) can = let l = was.low in omega arith
      low_by (Decide x) can = one (nat_eq r x) refl
        where
          one : (t : Bool) → nat_eq r x ≡ t → b.seen r + one_if t ≤ limit
          one false same = let l = was.low in omega arith
          one true same =
              let here : is_ready limit k (Decide r) ≡ true = ap (λ y. is_ready limit k (Decide y)) (eqb-true r x same) ∙ can in
              let seen = was.seen in
              let l = decides-below limit k r first.0 first.1 here in omega arith

      stands : StandsAt limit net (base_with b e) r post
      stands = record {
        seen = moved.cycle ∙ ap (λ n. n + one_if (is_decide r e)) was.seen;
        low = low_by e ready;
        taken = λ port linked. moved.taken port linked ∙ ap (λ n. n + one_if (is_take r port e)) (was.taken port linked);
        put = λ port linked. moved.put port linked ∙ ap (λ n. n + one_if (is_put r port e)) (was.put port linked);
      }

  stands-more : (e : Event) (es : List Event) (b : Base) (r : ℕ) (post : Post) → StandsAt limit net (base_further (base_with b e) es) r post → StandsAt limit net (base_further b (e ∷ es)) r post
  stands-more e es b r post s = record {
    seen = let c = one_event (is_decide r) e es in let x = s.seen in omega arith;
    low = let c = one_event (is_decide r) e es in let x = s.low in omega arith;
    taken = λ port linked. let c = one_event (is_take r port) e es in let x = s.taken port linked in omega arith;
    put = λ port linked. let c = one_event (is_put r port) e es in let x = s.put port linked in omega arith;
  }

  stands-none : (b : Base) (r : ℕ) (post : Post) → StandsAt limit net b r post → StandsAt limit net (base_further b []) r post
  stands-none b r post s = record {
    seen = let x = s.seen in omega arith;
    low = let x = s.low in omega arith;
    taken = λ port linked. let x = s.taken port linked in omega arith;
    put = λ port linked. let x = s.put port linked in omega arith;
  }

  -- a core after a list of events
  pub record IsAfter (k : CoreState) (b : Base) : Type 0 where
    pub network : k.net ≡ net
    pub in_step : IsInStep limit k
    pub stand : AllStandAt limit net k b

  events-at : (events : List Event) (k : CoreState) (b : Base) → IsAfter k b → IsAfter (after_events limit events k) (base_further b (happening limit events k))
  unfolding after_events happening
  events-at [] k b s = record { network = s.network; in_step = s.in_step; stand = λ r post at. stands-none b r post (s.stand r post at) }
  events-at (e ∷ es) k b s =
      by (is_ready limit k e) refl
      (λ ready. events-at es (happens k e) (base_with b e) (record {
        network = net-happens k e ∙ s.network;
        in_step = happens_in_step limit k e s.in_step ready;
        stand = happens-at k e b s.network s.in_step s.stand ready;
      }))
      (events-at es k b s)
    where
      by : (t : Bool) → is_ready limit k e ≡ t
          → (is_ready limit k e ≡ true → IsAfter (after_events limit es (happens k e)) (base_further (base_with b e) (happening limit es (happens k e))))
          → IsAfter (after_events limit es k) (base_further b (happening limit es k))
          → IsAfter (after_events limit es (if t then happens k e else k)) (base_further b (if t then e ∷ happening limit es (happens k e) else happening limit es k))
      by true ready further still =
          let x = further ready in
          record { network = x.network; in_step = x.in_step; stand = λ r post at. stands-more e (happening limit es (happens k e)) b r post (x.stand r post at) }
      by false ready further still = still

-- where all routers of a core are that is opened at a count
abbrev opening_base : ℕ → Base
opening_base count = record { seen = λ r. count; next_take = λ r port. count; next_put = λ r port. count + 1 }

opened-at : (limit : ℕ) (u : Run) → u.count ≤ limit → AllStandAt limit u.net (opening_core u) (opening_base u.count)
unfolding opening_core
opened-at limit u few r post at =
    let opened = λ (i : ℕ). resting_post u.net (view_at u.net u.count i) u.count (wires_in_flight u.net u.count i) in
    let posts = tabulate (nodes u.net.relation.grid) opened in
    let within = slice_get_within posts r post at in
    let size : length posts ≡ nodes u.net.relation.grid = length-tabulate (nodes u.net.relation.grid) opened in
    let l : r < nodes u.net.relation.grid = omega arith in
    let is : post ≡ opened r = sym (get_or_from_slice_get posts r post post at) ∙ get_or-tabulate (nodes u.net.relation.grid) r opened post l in
    record {
      seen = let c : cycle_of post ≡ u.count + 0 = ap cycle_of is in omega arith;
      low = few;
      taken = λ port linked.
          let c : cycle_taken port post ≡ u.count + 0 = ap (cycle_taken port) is ∙ ap (λ b. u.count + one_if b) (has_none (link_ports u.net) port) in
          omega arith;
      put = λ port linked. let c : cycle_put port post ≡ u.count + 1 + 0 = ap (cycle_put port) is in omega arith;
    }

net-opening : (u : Run) → (opening_core u).net ≡ u.net
unfolding opening_core
net-opening u = refl

pub after-events : (limit : ℕ) (u : Run) (events : List Event) → u.count ≤ limit → IsInStep limit (opening_core u)
    → IsAfter limit u.net (after_events limit events (opening_core u)) (base_after u.count (happening limit events (opening_core u)))
after-events limit u events few sound =
    events-at limit u.net events (opening_core u) (opening_base u.count)
    (record { network = net-opening u; in_step = sound; stand = opened-at limit u few })
