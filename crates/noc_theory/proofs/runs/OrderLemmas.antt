-- What every list of events has in common.
use Rattle.std.proofs.Common.{◌≡◌, ℕ, ◌+◌, ◌-◌, ◌<◌, ◌≤◌, Bool, true, false, cond, not, ◌&&◌, List, [], ◌∷◌, length, map, get_or, Option, Some, None, is_some, slice_get, count_by, refl, ap, sym, subst, ◌∙◌, ⊎_elim, arith, eqb-true}
use Rattle.std.specs.Prelude.{slice_index_or, nat_eq, if◌then◌else◌}
use Rattle.noc_theory.proofs.Common.{list_all, range_with_len, cases_lt, and_parts, false≢true, not-true, true_from_ne_false, false_from_ne_true, ext_get_or, same_lists, get_or_past, get_or-replicate, length-replicate, list_all_at, sum_by-cons, same_Some, slice_get_within, get_or_from_slice_get, map_indexed, one_if, IsGrid, neighbour, link_back, length-tabulate, get_or-tabulate, tabulate-from_each, length-map_indexed, get_or-map_indexed, Beat, no-value, View, Event, Take, Decide, Put, CoreState, Post, happens, has_beat, is_linked, is_ready, link_ports, none_has, post_at, resting_post, wire_of, beat_at, IsInStep, lockstep_core, lockstep_wires, IsPostInStep, cycle_of, cycle_put, cycle_taken, lockstep_at, Setup, Run, is_decide, is_put, is_take}
use Rattle.noc_theory.specs.Core.{after_event, after_events, are_between, is_between, no_beats, onto_wire}
use Rattle.noc_theory.specs.InStep.{HoldsCycles, KeepsStep, beats_of_cycles}
use Rattle.noc_theory.specs.Order.{decides, happening, puts, takes}
use Rattle.noc_theory.proofs.runs.CoreLemmas.{get_some, happens_in_step, moves, router_there, router_within}
use Rattle.noc_theory.proofs.runs.EventLemmas.{Moves, linked_port, linked_when, none_at}
use Rattle.noc_theory.proofs.runs.InStepLemmas.{holds_some}
use Rattle.noc_theory.proofs.runs.PostLemmas.{has_none, same_post}
use Rattle.noc_theory.proofs.runs.RunLemmas.{count_views}

-- ---- the core of a network after its cycles

opening_post : (u : Run) (r : ℕ) (post : Post) → post_at (lockstep_core u) r ≡ Some post
    → (view : View) × (slice_get (lockstep_at u.net u.count).views r ≡ Some view) × (resting_post u.net view u.count (lockstep_wires u.net u.count r) ≡ post)
unfolding lockstep_core
opening_post u r post at =
    let opened = λ (i : ℕ) (view : View). resting_post u.net view u.count (lockstep_wires u.net u.count i) in
    let views = (lockstep_at u.net u.count).views in
    let count : length (map_indexed (λ (i : ℕ) (view : View). resting_post u.net view u.count (lockstep_wires u.net u.count i)) (lockstep_at u.net u.count).views) ≡ length (lockstep_at u.net u.count).views = length-map_indexed opened views in
    let within = slice_get_within (map_indexed opened views) r post at in
    let l : r < length (lockstep_at u.net u.count).views = omega arith in
    let here = get_some views r l in (
      here.0,
      here.1,
      ap (opened r) (sym (get_or_from_slice_get views r here.0 here.0 here.1)) ∙ sym (get_or-map_indexed opened views r here.0 post l)
          ∙ get_or_from_slice_get (map_indexed opened views) r post post at,
    )

wire_in_flight : (net : Setup) (n r port : ℕ) → is_linked net r port ≡ true → slice_index_or (lockstep_wires net n r) port [] ≡ beat_at (lockstep_at net n).wires r port ∷ []
wire_in_flight net n r port linked =
    get_or-tabulate (link_ports net) port (λ p. if is_linked net r p then beat_at (lockstep_at net n).wires r p ∷ [] else []) [] (linked_port net r port linked)
    ∙ ap (λ b. if b then beat_at (lockstep_at net n).wires r port ∷ [] else []) linked

no_wire_in_flight : (net : Setup) (n r port : ℕ) → is_linked net r port ≡ false → slice_index_or (lockstep_wires net n r) port [] ≡ []
no_wire_in_flight net n r port none =
    ⊎_elim
    (λ (l : port < link_ports net).
    get_or-tabulate (link_ports net) port (λ p. if is_linked net r p then beat_at (lockstep_at net n).wires r p ∷ [] else []) [] l
    ∙ ap (λ b. if b then beat_at (lockstep_at net n).wires r port ∷ [] else []) none)
    (λ (past : link_ports net ≤ port).
    get_or_past (lockstep_wires net n r) port [] (let c = length-tabulate (link_ports net) (λ p. if is_linked net r p then beat_at (lockstep_at net n).wires r p ∷ [] else []) in omega arith))
    (cases_lt port (link_ports net))

rested_in_step : (limit : ℕ) (net : Setup) (n r : ℕ) (view : View) → slice_get (lockstep_at net n).views r ≡ Some view
    → IsPostInStep limit net r (resting_post net view n (lockstep_wires net n r))
rested_in_step limit net n r view at = record {
  view = let same : n ≡ n + 0 = omega arith in subst (λ (m : ℕ). slice_get (lockstep_at net m).views r ≡ Some view) same at;
  wires = length-tabulate (link_ports net) _;
  taken = length-replicate (link_ports net) _;
  unput = length-replicate (link_ports net) _;
  unlinked = λ port none. no_wire_in_flight net n r port none;
  beats_taken = λ port beat e. absurd (no_beat port beat e);
  beats_unput = λ port s q beat e to. absurd (no_beat port beat e);
  some_unput = λ port e. absurd (false≢true (sym (has_none (link_ports net) port) ∙ e));
  all_taken = λ e. absurd (false≢true e);
  below_limit = λ e. absurd (false≢true e);
}
  where
    no_beat : (port : ℕ) (beat : Beat) → slice_index_or (no_beats net) port None ≡ Some beat → ⊥
    no_beat port beat e = false≢true (sym (has_none (link_ports net) port) ∙ ap is_some e)

-- the cycles of a router that rests
rested-taken : (net : Setup) (view : View) (n port : ℕ) (wires : List (List Beat)) → cycle_taken port (resting_post net view n wires) ≡ n
rested-taken net view n port wires = let same : n + 0 ≡ n = omega arith in ap (λ b. n + one_if b) (has_none (link_ports net) port) ∙ same

opening_holds : (net : Setup) (n r port s q : ℕ) (view : View) (other : View) (wires : List (List Beat)) → neighbour net.relation.grid r port ≡ Some (s, q)
    → HoldsCycles net r port (cycle_taken port (resting_post net view n (lockstep_wires net n r))) (cycle_put q (resting_post net other n wires)) (wire_of (resting_post net view n (lockstep_wires net n r)) port)
opening_holds net n r port s q view other wires to =
    let taken = rested-taken net view n port (lockstep_wires net n r) in
    let put : cycle_put q (resting_post net other n wires) ≡ n + 1 = omega arith in
    let one : n + 1 - n ≡ 1 = omega arith in
    record {
      order = omega (arith, taken, put);
      beats = wire_in_flight net n r port (linked_when net r port (s, q) to)
          ∙ sym (ap (λ a. beats_of_cycles net r port a (cycle_put q (resting_post net other n wires))) taken ∙ ap (beats_of_cycles net r port n) put
          ∙ ap (λ c. map (λ m. beat_at (lockstep_at net m).wires r port) (range_with_len n c)) one);
    }

-- where a router of such a core starts
record Starts (n : ℕ) (post : Post) : Type 0 where
  taken : (port : ℕ) → cycle_taken port post ≡ n
  put : (port : ℕ) → cycle_put port post ≡ n + 1
  cycle : cycle_of post ≡ n

starts : (u : Run) (r : ℕ) (post : Post) → post_at (lockstep_core u) r ≡ Some post → Starts u.count post
starts u r post at =
    let here = opening_post u r post at in
    subst (Starts u.count) here.2 (record {
      taken = λ port. rested-taken u.net here.0 u.count port (lockstep_wires u.net u.count r);
      put = λ port. omega arith;
      cycle = omega arith;
    })

net-opening : (u : Run) → (lockstep_core u).net ≡ u.net
unfolding lockstep_core
net-opening u = refl

pub opening_in_step : (limit : ℕ) (u : Run) → IsGrid u.net.relation.grid → IsInStep limit (lockstep_core u)
unfolding lockstep_core
opening_in_step limit u grid = record {
  grid = grid;
  count = length-map_indexed _ (lockstep_at u.net u.count).views ∙ count_views u.net u.count;
  posts = λ r post at.
      let here = opening_post u r post at in
      subst (IsPostInStep limit u.net r) here.2 (rested_in_step limit u.net u.count r here.0 here.1);
  wires = λ r port s q post sender at_r at_s to.
      let here = opening_post u r post at_r in
      let there = opening_post u s sender at_s in
      let P = λ (p : Post). HoldsCycles u.net r port (cycle_taken port p) (cycle_put q sender) (wire_of p port) in
      let Q = λ (p : Post). HoldsCycles u.net r port (cycle_taken port (resting_post u.net here.0 u.count (lockstep_wires u.net u.count r))) (cycle_put q p) (wire_of (resting_post u.net here.0 u.count (lockstep_wires u.net u.count r)) port) in
      subst P here.2 (subst Q there.2 (opening_holds u.net u.count r port s q here.0 there.0 (lockstep_wires u.net u.count s) to));
}

-- ---- a list of events

net-onto_wire : (to : Option (ℕ × ℕ)) (beat : Beat) (k : CoreState) → (onto_wire to beat k).net ≡ k.net
net-onto_wire None beat k = refl
net-onto_wire (Some to) beat k = refl

pub net-happens : (k : CoreState) (e : Event) → (happens k e).net ≡ k.net
unfolding happens
net-happens k (Take r port) = refl
net-happens k (Decide r) = refl
net-happens k (Put r port) = net-onto_wire (neighbour k.net.relation.grid r port) _ _

net-after_events : (limit : ℕ) (events : List Event) (k : CoreState) → (after_events limit events k).net ≡ k.net
unfolding after_events
net-after_events limit [] k = refl
net-after_events limit (e ∷ es) k = net-after_events limit es (after_event limit k e) ∙ by (is_ready limit k e)
  where
    by : (b : Bool) → (if b then happens k e else k).net ≡ k.net
    by true = net-happens k e
    by false = refl

pub after_event_in_step : (limit : ℕ) (k : CoreState) (e : Event) → IsInStep limit k → IsInStep limit (after_event limit k e)
after_event_in_step limit k e sound = by (is_ready limit k e) refl
  where
    by : (b : Bool) → is_ready limit k e ≡ b → IsInStep limit (if b then happens k e else k)
    by true ready = happens_in_step limit k e sound ready
    by false ready = sound

after_events_in_step : (limit : ℕ) (events : List Event) (k : CoreState) → IsInStep limit k → IsInStep limit (after_events limit events k)
unfolding after_events
after_events_in_step limit [] k sound = sound
after_events_in_step limit (e ∷ es) k sound = after_events_in_step limit es (after_event limit k e) (after_event_in_step limit k e sound)

-- how far the events take a router
record Travels (net : Setup) (r : ℕ) (events : List Event) (before after : Post) : Type 0 where
  taken : (port : ℕ) → is_linked net r port ≡ true → cycle_taken port after ≡ cycle_taken port before + takes r port events
  put : (port : ℕ) → is_linked net r port ≡ true → cycle_put port after ≡ cycle_put port before + puts r port events
  cycle : cycle_of after ≡ cycle_of before + decides r events

travels_none : (net : Setup) (r : ℕ) (post : Post) → Travels net r [] post post
travels_none net r post = record {
  taken = λ port linked. omega arith;
  put = λ port linked. omega arith;
  cycle = omega arith;
}

pub one_event : (test : Event → Bool) (e : Event) (es : List Event) → count_by test (e ∷ es) ≡ one_if (test e) + count_by test es
one_event test e es = sum_by-cons (λ x. cond (test x) 1 0) e es

travels_more : (net : Setup) (r : ℕ) (e : Event) (es : List Event) (before mid after : Post) → Moves net r e before mid → Travels net r es mid after → Travels net r (e ∷ es) before after
travels_more net r e es before mid after first rest = record {
  taken = λ port linked. let count = one_event (is_take r port) e es in omega (arith, rest.taken port linked, first.taken port linked);
  put = λ port linked. let count = one_event (is_put r port) e es in omega (arith, rest.put port linked, first.put port linked);
  cycle = let count = one_event (is_decide r) e es in omega (arith, rest.cycle, first.cycle);
}

travels : (limit : ℕ) (events : List Event) (k : CoreState) (net : Setup) → k.net ≡ net → IsInStep limit k → (r : ℕ) (post : Post) → post_at (after_events limit events k) r ≡ Some post
    → (before : Post) × (post_at k r ≡ Some before) × Travels net r (happening limit events k) before post
unfolding after_events happening
travels limit [] k net same sound r post at = (post, at, travels_none net r post)
travels limit (e ∷ es) k net same sound r post at =
    by (is_ready limit k e) refl at
    (λ ready. travels limit es (happens k e) net (net-happens k e ∙ same) (happens_in_step limit k e sound ready) r post)
    (travels limit es k net same sound r post)
  where
    Rest : CoreState → Type 0
    Rest after = post_at (after_events limit es after) r ≡ Some post → (before : Post) × (post_at after r ≡ Some before) × Travels net r (happening limit es after) before post

    by : (b : Bool) → is_ready limit k e ≡ b → post_at (after_events limit es (if b then happens k e else k)) r ≡ Some post
        → (is_ready limit k e ≡ true → Rest (happens k e)) → Rest k
        → (before : Post) × (post_at k r ≡ Some before) × Travels net r (if b then e ∷ happening limit es (happens k e) else happening limit es k) before post
    by true ready at_end further stays =
        let rest = further ready at_end in
        let first = moves limit k e r rest.0 sound ready rest.1 in
        (first.0, first.1, travels_more net r e (happening limit es (happens k e)) first.0 rest.0 post (subst (λ (n : Setup). Moves n r e first.0 rest.0) same first.2) rest.2)
    by false ready at_end further stays = stays at_end

-- ---- how many beats a wire holds

put_after_taken : (limit : ℕ) (net : Setup) (r port : ℕ) (post : Post) → IsPostInStep limit net r post → is_linked net r port ≡ true → cycle_put port post ≤ cycle_taken port post + 1
put_after_taken limit net r port post sound linked = by post.decided refl
  where
    at_most_one : (b : Bool) → one_if b ≤ 1
    at_most_one true = omega arith
    at_most_one false = omega arith

    by : (b : Bool) → post.decided ≡ b → cycle_put port post ≤ cycle_taken port post + 1
    by true e =
        let taken : cycle_taken port post ≡ post.steps + 1 = ap (λ c. post.steps + one_if c) (sound.all_taken e port linked) in
        omega (arith, taken, at_most_one (post.decided && not (has_beat post.unput port)))
    by false e =
        let put : cycle_put port post ≡ post.steps + 1 + 0 = ap (λ c. post.steps + 1 + one_if (c && not (has_beat post.unput port))) e in
        omega arith

-- the beats on a wire to a router whose own Puts are so far
few_beats : (limit : ℕ) (k : CoreState) → IsInStep limit k → (r port s q : ℕ) (post sender : Post) → post_at k r ≡ Some post → post_at k s ≡ Some sender
    → neighbour k.net.relation.grid r port ≡ Some (s, q) → length (wire_of post port) ≤ 2
few_beats limit k sound r port s q post sender at_r at_s to =
    let back = link_back k.net.relation.grid r port s q sound.grid (router_within limit k sound r post at_r) to in
    let link = linked_when k.net r port (s, q) to in
    let link_back = linked_when k.net s q (r, port) back.back in
    let here = sound.wires r port s q post sender at_r at_s to in
    let there = sound.wires s q r port sender post at_s at_r back.back in
    let mine = put_after_taken limit k.net r port post (sound.posts r post at_r) link in
    let its = put_after_taken limit k.net s q sender (sound.posts s sender at_s) link_back in
    omega (arith, holds_some k.net r port _ _ (wire_of post port) here, here.order, there.order, mine, its)

-- a router puts a beat on a wire with at most one
pub room_for_beat : (limit : ℕ) (k : CoreState) → IsInStep limit k → (r port s q : ℕ) (post sender : Post) → post_at k r ≡ Some post → post_at k s ≡ Some sender
    → neighbour k.net.relation.grid r port ≡ Some (s, q) → has_beat sender.unput q ≡ true → length (wire_of post port) < 2
room_for_beat limit k sound r port s q post sender at_r at_s to has =
    let back = link_back k.net.relation.grid r port s q sound.grid (router_within limit k sound r post at_r) to in
    let link = linked_when k.net r port (s, q) to in
    let link_back = linked_when k.net s q (r, port) back.back in
    let here = sound.wires r port s q post sender at_r at_s to in
    let there = sound.wires s q r port sender post at_s at_r back.back in
    let mine = put_after_taken limit k.net r port post (sound.posts r post at_r) link in
    let source = sound.posts s sender at_s in
    let decided = source.some_unput q has in
    let put : cycle_put q sender ≡ sender.steps + 1 + 0 =
    ap (λ c. sender.steps + 1 + one_if (c && not (has_beat sender.unput q))) decided ∙ ap (λ c. sender.steps + 1 + one_if (not c)) has in
    let taken : cycle_taken q sender ≡ sender.steps + 1 = ap (λ c. sender.steps + one_if c) (source.all_taken decided q link_back) in
    omega (arith, holds_some k.net r port _ _ (wire_of post port) here, here.order, there.order, mine)

-- ---- between the cycles

between-decided : (post : Post) → is_between post ≡ true → post.decided ≡ false
between-decided post e = not-true post.decided (and_parts (not post.decided) (none_has post.taken) e).0

between-taken : (post : Post) (port : ℕ) → is_between post ≡ true → cycle_taken port post ≡ post.steps
between-taken post port e =
    let same : post.steps + 0 ≡ post.steps = omega arith in
    ap (λ c. post.steps + one_if c) (none_at post.taken port (and_parts (not post.decided) (none_has post.taken) e).1) ∙ same

between-put : (post : Post) (port : ℕ) → is_between post ≡ true → cycle_put port post ≡ post.steps + 1
between-put post port e =
    let same : post.steps + 1 + 0 ≡ post.steps + 1 = omega arith in
    ap (λ c. post.steps + 1 + one_if (c && not (has_beat post.unput port))) (between-decided post e) ∙ same

pub between-cycle : (post : Post) → is_between post ≡ true → cycle_of post ≡ post.steps
between-cycle post e =
    let same : post.steps + 0 ≡ post.steps = omega arith in
    ap (λ c. post.steps + one_if c) (between-decided post e) ∙ same

-- ---- all routers between their cycles at one count

no_beat_at_all : (net : Setup) (beats : List (Option Beat)) → length beats ≡ link_ports net → ((port : ℕ) → port < link_ports net → has_beat beats port ≡ false) → beats ≡ no_beats net
no_beat_at_all net beats count none =
    ext_get_or None beats (no_beats net) (count ∙ sym (length-replicate (link_ports net) _))
    (λ port l. no-value (get_or beats port None) (none port (omega (arith, count))) ∙ sym (get_or-replicate (link_ports net) port _ None (omega (arith, count))))

all_routers : (p : Post → Bool) (posts : List Post) (r : ℕ) (post : Post) → list_all p posts ≡ true → slice_get posts r ≡ Some post → p post ≡ true
all_routers p posts r post all at =
    true_from_ne_false (p post)
    (λ f. false≢true (sym (list_all_at p posts r post (slice_get_within posts r post at) (ap p (get_or_from_slice_get posts r post post at) ∙ f)) ∙ all))

module _ (limit n : ℕ) (k : CoreState) (sound : IsInStep limit k) (all : are_between k n ≡ true) where
  -- a router of such a core
  pub here_between : (r : ℕ) (post : Post) → post_at k r ≡ Some post → (is_between post ≡ true) × (post.steps ≡ n)
  here_between r post at =
      let parts = and_parts (is_between post) (nat_eq post.steps n) (all_routers (λ (p : Post). is_between p && nat_eq p.steps n) k.posts r post all at) in
      (parts.0, eqb-true post.steps n parts.1)

  pub wire_there : (r port : ℕ) (post : Post) → post_at k r ≡ Some post → port < link_ports k.net
      → wire_of post port ≡ (if is_linked k.net r port then beat_at (lockstep_at k.net n).wires r port ∷ [] else [])
  wire_there r port post at l = by (neighbour k.net.relation.grid r port) refl
    where
      by : (to : Option (ℕ × ℕ)) → neighbour k.net.relation.grid r port ≡ to → wire_of post port ≡ (if is_linked k.net r port then beat_at (lockstep_at k.net n).wires r port ∷ [] else [])
      by None e =
          let none : is_linked k.net r port ≡ false = ap is_some e in
          (sound.posts r post at).unlinked port none ∙ sym (ap (λ b. if b then beat_at (lockstep_at k.net n).wires r port ∷ [] else []) none)
      by (Some (s, q)) e =
          let back = link_back k.net.relation.grid r port s q sound.grid (router_within limit k sound r post at) e in
          let source = router_there limit k sound s back.node in
          let holds = sound.wires r port s q post source.0 at source.1 e in
          let mine = here_between r post at in
          let its = here_between s source.0 source.1 in
          let taken : cycle_taken port post ≡ n = between-taken post port mine.0 ∙ mine.1 in
          let put : cycle_put q source.0 ≡ n + 1 = between-put source.0 q its.0 ∙ ap (λ m. m + 1) its.1 in
          let one : n + 1 - n ≡ 1 = omega arith in
          holds.beats ∙ ap (λ a. beats_of_cycles k.net r port a (cycle_put q source.0)) taken ∙ ap (beats_of_cycles k.net r port n) put
          ∙ ap (λ c. map (λ m. beat_at (lockstep_at k.net m).wires r port) (range_with_len n c)) one
          ∙ sym (ap (λ b. if b then beat_at (lockstep_at k.net n).wires r port ∷ [] else []) (linked_when k.net r port (s, q) e))

  -- a router of such a core begins at that count
  rests : (r : ℕ) (post : Post) (view : View) → post_at k r ≡ Some post → slice_get (lockstep_at k.net n).views r ≡ Some view
      → post ≡ resting_post k.net view n (lockstep_wires k.net n r)
  rests r post view at seen =
      let here = here_between r post at in
      let in_step = sound.posts r post at in
      let decided = between-decided post here.0 in
      let cycle : cycle_of post ≡ n = between-cycle post here.0 ∙ here.1 in
      let view_is : post.view ≡ view = same_Some post.view view (sym in_step.view ∙ ap (λ m. slice_get (lockstep_at k.net m).views r) cycle ∙ seen) in
      let wires_are : post.wires ≡ lockstep_wires k.net n r =
      tabulate-from_each (link_ports k.net) (λ port. if is_linked k.net r port then beat_at (lockstep_at k.net n).wires r port ∷ [] else []) post.wires [] in_step.wires (λ port l. wire_there r port post at l) in
      let taken_is = no_beat_at_all k.net post.taken in_step.taken (λ port l. none_at post.taken port (and_parts (not post.decided) (none_has post.taken) here.0).1) in
      let unput_is = no_beat_at_all k.net post.unput in_step.unput (λ port l. false_from_ne_true (has_beat post.unput port) (λ e. false≢true (sym decided ∙ in_step.some_unput port e))) in
      same_post post.view view post.steps n post.wires (lockstep_wires k.net n r) post.taken (no_beats k.net) post.decided false post.unput (no_beats k.net)
      view_is here.1 wires_are taken_is decided unput_is

  pub whole_core : k ≡ lockstep_core (record { net = k.net; count = n })
  unfolding lockstep_core
  whole_core = ap (λ (posts : List Post). record k { posts = posts })
      (let opened = λ (r : ℕ) (view : View). resting_post k.net view n (lockstep_wires k.net n r) in
      let views = (lockstep_at k.net n).views in
      let count : length (map_indexed (λ (r : ℕ) (view : View). resting_post k.net view n (lockstep_wires k.net n r)) (lockstep_at k.net n).views) ≡ length (lockstep_at k.net n).views = length-map_indexed opened views in
      let routers = count_views k.net n in
      same_lists k.posts (map_indexed opened views) (omega (arith, sound.count))
      (λ r d l.
      let post = get_some k.posts r l in
      let l' : r < length (lockstep_at k.net n).views = omega (arith, sound.count) in
      let view = get_some views r l' in
      get_or_from_slice_get k.posts r post.0 d post.1
      ∙ rests r post.0 view.0 post.1 view.1
      ∙ ap (opened r) (sym (get_or_from_slice_get views r view.0 view.0 view.1))
      ∙ sym (get_or-map_indexed opened views r view.0 d l')))

-- ---- the law

pub keeps_step : (u : Run) (limit : ℕ) (events : List Event) → IsGrid u.net.relation.grid
    → KeepsStep u.net u.count (happening limit events (lockstep_core u)) (after_events limit events (lockstep_core u))
keeps_step u limit events grid = subst (λ (net : Setup). KeepsStep net u.count happened end) net_is (record {
  routers = sound.count;
  views = λ r post at.
      let start = way r post at in
      let in_step = sound.posts r post at in
      let cycle : cycle_of post ≡ u.count + decides r happened = start.2.1.cycle ∙ ap (λ c. c + decides r happened) start.2.0.cycle in
      sym (get_or_from_slice_get (lockstep_at end.net (u.count + decides r happened)).views r post.view post.view
      (sym (ap (λ n. slice_get (lockstep_at end.net n).views r) cycle) ∙ in_step.view));
  steps = λ r post at between.
      let start = way r post at in
      sym (between-cycle post between) ∙ start.2.1.cycle ∙ ap (λ c. c + decides r happened) start.2.0.cycle;
  wires = λ r port s q post sender at_r at_s to.
      let back = link_back end.net.relation.grid r port s q sound.grid (router_within limit end sound r post at_r) to in
      let link = linked_when end.net r port (s, q) to in
      let link_back = linked_when end.net s q (r, port) back.back in
      let receiver = way r post at_r in
      let source = way s sender at_s in
      let holds = sound.wires r port s q post sender at_r at_s to in
      let count = holds_some end.net r port _ _ (wire_of post port) holds in
      record {
        beats = omega (arith, count, holds.order, receiver.2.1.taken port link, receiver.2.0.taken port, source.2.1.put q link_back, source.2.0.put q);
        few = few_beats limit end sound r port s q post sender at_r at_s to;
        between = λ mine its.
            let taken = between-taken post port mine in
            let put = between-put sender q its in
            let there = sound.wires s q r port sender post at_s at_r back.back in
            let taken_back = between-taken sender q its in
            let put_back = between-put post port mine in (
              omega (arith, count, holds.order),
              holds.beats ∙ ap (λ a. beats_of_cycles end.net r port a (cycle_put q sender)) taken ∙ ap (beats_of_cycles end.net r port post.steps) put,
              omega (arith, holds.order),
              omega (arith, there.order),
            );
      };
  whole = λ n all. whole_core limit n end sound all;
})
  where
    end : CoreState
    end = after_events limit events (lockstep_core u)

    happened : List Event
    happened = happening limit events (lockstep_core u)

    opening_sound : IsInStep limit (lockstep_core u)
    opening_sound = opening_in_step limit u grid

    sound : IsInStep limit (after_events limit events (lockstep_core u))
    sound = after_events_in_step limit events (lockstep_core u) opening_sound

    net_is : (after_events limit events (lockstep_core u)).net ≡ u.net
    net_is = net-after_events limit events (lockstep_core u) ∙ net-opening u

    way : (r : ℕ) (post : Post) → post_at (after_events limit events (lockstep_core u)) r ≡ Some post
        → (before : Post) × (post_at (lockstep_core u) r ≡ Some before) × (Starts u.count before × Travels (after_events limit events (lockstep_core u)).net r (happening limit events (lockstep_core u)) before post)
    way r post at =
        let start = travels limit events (lockstep_core u) (after_events limit events (lockstep_core u)).net (sym (net-after_events limit events (lockstep_core u))) opening_sound r post at in
        (start.0, start.1, (starts u r start.0 start.1, start.2))
