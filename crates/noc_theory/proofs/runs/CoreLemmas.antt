-- A core in step stays in step, whatever event comes.
use Rattle.std.proofs.Common.{◌≡◌, ◌≢◌, ℕ, zero, suc, ◌+◌, ◌<◌, Bool, true, false, not, ◌&&◌, List, [], ◌∷◌, ◌++◌, length, get_or, set, drop, Option, Some, option_map, slice_get, refl, ap, sym, subst, ◌∙◌, ◌⊎◌, inl, inr, ⊎_elim, arith}
use Rattle.std.specs.Prelude.{unwrap_or}
use Rattle.noc_theory.proofs.Common.{cases_eq, and_parts, get_or-set_same, get_or-set_other, same_Some, slice_get_within, IsLinkBack, neighbour, nodes, link_back, Beat, some-value, idle_beat, one_if, Event, Take, Decide, Put, CoreState, Post, happens, has_beat, holds_at, is_linked, is_ready, may_decide, post_at, taking, wire_of, beat_at, IsInStep, IsPostInStep, cycle_put, cycle_taken, lockstep_at, Setup, is_put, is_take}
use Rattle.noc_theory.specs.Core.{beat_to_send, deciding, may_put, may_take, onto_wire, putting, receiving, with_post}
use Rattle.noc_theory.proofs.runs.EventLemmas.{Moves, both, decided_post, finished-wires, linked_port, linked_when, may_decide-parts, may_take-parts, moves-deciding, moves-decide_other, moves-put_other, moves-putting, moves-take_other, moves-taking, not_first, not_second, put_post}
use Rattle.noc_theory.proofs.runs.InStepLemmas.{decided_in_step, finished_in_step, holds_first, holds_put, holds_same, holds_taken, put_in_step, receiving_in_step, taking_in_step, view_now}
use Rattle.noc_theory.proofs.runs.PostLemmas.{beat_when, get_changed_other, get_changed_same, length-changed_at, post_before, router_when}
use Rattle.noc_theory.proofs.runs.SentLemmas.{count_sent}
use Rattle.noc_theory.proofs.runs.WireLemmas.{same-ports}

pub get_some : {X : Type 0} (xs : List X) (i : ℕ) → i < length xs → (x : X) × (slice_get xs i ≡ Some x)
get_some [] i l = absurd (omega arith)
get_some (x ∷ xs) zero l = (x, refl)
get_some (x ∷ xs) (suc i) l = get_some xs i (omega arith)

-- each router is there
pub router_there : (limit : ℕ) (k : CoreState) → IsInStep limit k → (r : ℕ) → r < nodes k.net.relation.grid → (post : Post) × (post_at k r ≡ Some post)
router_there limit k sound r l = get_some k.posts r (omega (arith, sound.count))

pub router_within : (limit : ℕ) (k : CoreState) → IsInStep limit k → (r : ℕ) (post : Post) → post_at k r ≡ Some post → r < nodes k.net.relation.grid
router_within limit k sound r post at = let l = slice_get_within k.posts r post at in omega (arith, sound.count)

-- what is ready at a router
at_router : (may : Post → Bool) (k : CoreState) (x : ℕ) (post : Post) → holds_at may (post_at k x) ≡ true → post_at k x ≡ Some post → may post ≡ true
at_router may k x post ready at = sym (ap (holds_at may) at) ∙ ready

moved : {X : Type 0} (P : X → Type 0) (a b : X) → a ≡ b → P a → P b
moved P a b e p = subst P e p

-- a router after an event, and before it
abbrev Before : CoreState → ℕ → Event → Post → Type 0
Before k r e post = (before : Post) × (post_at k r ≡ Some before) × Moves k.net r e before post

-- ---- Take

take_moves : (limit : ℕ) (k : CoreState) (x p r : ℕ) (post : Post) → IsInStep limit k → is_linked k.net x p ≡ true → holds_at (may_take limit p) (post_at k x) ≡ true
    → post_at (with_post x (taking p) k) r ≡ Some post → Before k r (Take x p) post
take_moves limit k x p r post sound link ready at =
    ⊎_elim
    (λ (same : (r ≡ x) × ((before : Post) × (post_at k r ≡ Some before) × (taking p before ≡ post))).
    let before = same.1.0 in
    let at_x : post_at k x ≡ Some before = subst (λ (y : ℕ). post_at k y ≡ Some before) same.0 same.1.1 in
    let within : p < length before.taken = let l = linked_port k.net x p link in omega (arith, (sound.posts x before at_x).taken) in (
      before,
      same.1.1,
      moved (Moves k.net r (Take x p) before) (taking p before) post same.1.2
          (moves-taking limit k.net r x p before same.0 within (at_router (may_take limit p) k x before ready at_x)),
    ))
    (λ (other : (r ≢ x) × (post_at k r ≡ Some post)). (post, other.1, moves-take_other k.net r x p post other.0))
    (post_before x r (taking p) k post at)

-- the wires after a Take
take_wire : (limit : ℕ) (k : CoreState) (x p r port : ℕ) (before post : Post) → IsInStep limit k → is_linked k.net x p ≡ true → holds_at (may_take limit p) (post_at k x) ≡ true
    → post_at k r ≡ Some before → post_at (with_post x (taking p) k) r ≡ Some post
    → ((is_take r port (Take x p) ≡ true) × (0 < length (wire_of before port)) × (wire_of post port ≡ drop 1 (wire_of before port)))
    ⊎ ((is_take r port (Take x p) ≡ false) × (wire_of post port ≡ wire_of before port))
take_wire limit k x p r port before post sound link ready at at_now =
    ⊎_elim
    (λ (same : r ≡ x).
    let at_x : post_at k x ≡ Some before = subst (λ (y : ℕ). post_at k y ≡ Some before) same at in
    let now_x : post_at (with_post x (taking p) k) x ≡ Some post = subst (λ (y : ℕ). post_at (with_post x (taking p) k) y ≡ Some post) same at_now in
    let is : taking p before ≡ post = same_Some (taking p before) post (sym (get_changed_same x (taking p) k.posts ∙ ap (option_map (taking p)) at_x) ∙ now_x) in
    let parts = may_take-parts limit p before (at_router (may_take limit p) k x before ready at_x) in
    let within : p < length before.wires = let l = linked_port k.net x p link in omega (arith, (sound.posts x before at_x).wires) in
    ⊎_elim
    (λ (e : port ≡ p).
    inl (
      both r x port p same e,
      subst (λ (i : ℕ). 0 < length (wire_of before i)) (sym e) parts.0,
      ap (λ (now : Post). wire_of now port) (sym is)
          ∙ ap (get_or' (set before.wires p (drop 1 (wire_of before p)))) e
          ∙ get_or-set_same before.wires p (drop 1 (wire_of before p)) [] within
          ∙ ap (λ i. drop 1 (wire_of before i)) (sym e),
    ))
    (λ (n : port ≢ p).
    inr (
      not_second r x port p n,
      ap (λ (now : Post). wire_of now port) (sym is) ∙ get_or-set_other before.wires p port (drop 1 (wire_of before p)) [] n,
    ))
    (cases_eq port p))
    (λ (n : r ≢ x).
    inr (
      not_first r x port p n,
      ap (λ (now : Post). wire_of now port) (sym (same_Some before post (sym (get_changed_other x r (taking p) k.posts n ∙ at) ∙ at_now))),
    ))
    (cases_eq r x)
  where
    get_or' : List (List Beat) → ℕ → List Beat
    get_or' wires i = get_or wires i []

take_in_step : (limit : ℕ) (k : CoreState) (x p : ℕ) → IsInStep limit k → is_linked k.net x p ≡ true → holds_at (may_take limit p) (post_at k x) ≡ true
    → IsInStep limit (with_post x (taking p) k)
take_in_step limit k x p sound link ready = record {
  grid = sound.grid;
  count = length-changed_at x (taking p) k.posts ∙ sound.count;
  posts = λ r post at. ⊎_elim
      (λ (same : (r ≡ x) × ((before : Post) × (post_at k r ≡ Some before) × (taking p before ≡ post))).
      let at_x : post_at k x ≡ Some same.1.0 = subst (λ (y : ℕ). post_at k y ≡ Some same.1.0) same.0 same.1.1 in
      subst (λ (y : ℕ). IsPostInStep limit k.net y post) (sym same.0) (moved (IsPostInStep limit k.net x) (taking p same.1.0) post same.1.2 (taker same.1.0 at_x)))
      (λ (other : (r ≢ x) × (post_at k r ≡ Some post)). sound.posts r post other.1)
      (post_before x r (taking p) k post at);
  wires = λ r port s q post sender at_r at_s to.
      let net = k.net in
      let receiver = take_moves limit k x p r post sound link ready at_r in
      let source = take_moves limit k x p s sender sound link ready at_s in
      let in_net = router_within limit k sound r receiver.0 receiver.1 in
      let back = link_back k.net.relation.grid r port s q sound.grid in_net to in
      let taken = receiver.2.taken port (linked_when net r port (s, q) to) in
      let put = source.2.put q (linked_when net s q (r, port) back.back) in
      let was = sound.wires r port s q receiver.0 source.0 receiver.1 source.1 to in
      ⊎_elim
      (λ (here : (is_take r port (Take x p) ≡ true) × (0 < length (wire_of receiver.0 port)) × (wire_of post port ≡ drop 1 (wire_of receiver.0 port))).
      let one : cycle_taken port receiver.0 + one_if (is_take r port (Take x p)) ≡ cycle_taken port receiver.0 + 1 = ap (λ b. cycle_taken port receiver.0 + one_if b) here.0 in
      holds_same net r port (cycle_taken port receiver.0 + 1) (cycle_put q source.0) (cycle_taken port post) (cycle_put q sender) (drop 1 (wire_of receiver.0 port)) (wire_of post port)
      (sym (taken ∙ one)) (omega (arith, put)) (sym here.2)
      (holds_taken net r port (cycle_taken port receiver.0) (cycle_put q source.0) (wire_of receiver.0 port) was here.1))
      (λ (other : (is_take r port (Take x p) ≡ false) × (wire_of post port ≡ wire_of receiver.0 port)).
      let none : cycle_taken port receiver.0 + one_if (is_take r port (Take x p)) ≡ cycle_taken port receiver.0 + 0 = ap (λ b. cycle_taken port receiver.0 + one_if b) other.0 in
      holds_same net r port (cycle_taken port receiver.0) (cycle_put q source.0) (cycle_taken port post) (cycle_put q sender) (wire_of receiver.0 port) (wire_of post port)
      (omega (arith, taken, none)) (omega (arith, put)) (sym other.1) was)
      (take_wire limit k x p r port receiver.0 post sound link ready receiver.1 at_r);
}
  where
    taker : (before : Post) → post_at k x ≡ Some before → IsPostInStep limit k.net x (taking p before)
    taker before at =
        let parts = may_take-parts limit p before (at_router (may_take limit p) k x before ready at) in
        taking_in_step limit k.net x p before (sound.posts x before at) link parts.0
        (λ beat e.
        let to = some-value (neighbour k.net.relation.grid x p) link in
        let s = to.0.0 in
        let q = to.0.1 in
        let back = link_back k.net.relation.grid x p s q sound.grid (router_within limit k sound x before at) to.1 in
        let source = router_there limit k sound s back.node in
        let holds = sound.wires x p s q before source.0 at source.1 to.1 in
        let cycle : before.steps + 0 ≡ before.steps = omega arith in
        sym (same_Some _ beat (sym (holds_first k.net x p (cycle_taken p before) (cycle_put q source.0) (wire_of before p) holds parts.0) ∙ e))
        ∙ ap (λ n. beat_at (lockstep_at k.net n).wires x p) (ap (λ b. before.steps + one_if b) parts.1 ∙ cycle))

-- ---- a router changes, and its wires stay

pub kept_wire : (x r port : ℕ) (f : Post → Post) (k : CoreState) (before post : Post) → ((one : Post) → (f one).wires ≡ one.wires)
    → post_at k r ≡ Some before → post_at (with_post x f k) r ≡ Some post → wire_of post port ≡ wire_of before port
kept_wire x r port f k before post keeps at at_now =
    ⊎_elim
    (λ (same : r ≡ x).
    let at_x : post_at k x ≡ Some before = subst (λ (y : ℕ). post_at k y ≡ Some before) same at in
    let now_x : post_at (with_post x f k) x ≡ Some post = subst (λ (y : ℕ). post_at (with_post x f k) y ≡ Some post) same at_now in
    let is : f before ≡ post = same_Some (f before) post (sym (get_changed_same x f k.posts ∙ ap (option_map f) at_x) ∙ now_x) in
    ap (λ (now : Post). wire_of now port) (sym is) ∙ ap (λ (wires : List (List Beat)). get_or wires port []) (keeps before))
    (λ (n : r ≢ x). ap (λ (now : Post). wire_of now port) (sym (same_Some before post (sym (get_changed_other x r f k.posts n ∙ at) ∙ at_now))))
    (cases_eq r x)

-- ---- Decide

decide_moves : (limit : ℕ) (k : CoreState) (x r : ℕ) (post : Post) → IsInStep limit k → holds_at (may_decide limit k.net x) (post_at k x) ≡ true
    → post_at (with_post x (deciding k.net x) k) r ≡ Some post → Before k r (Decide x) post
decide_moves limit k x r post sound ready at =
    ⊎_elim
    (λ (same : (r ≡ x) × ((before : Post) × (post_at k r ≡ Some before) × (deciding k.net x before ≡ post))).
    let before = same.1.0 in
    let at_x : post_at k x ≡ Some before = subst (λ (y : ℕ). post_at k y ≡ Some before) same.0 same.1.1 in
    let may = at_router (may_decide limit k.net x) k x before ready at_x in
    let now = view_now limit k.net x before (sound.posts x before at_x) (may_decide-parts limit k.net x before may).0 in (
      before,
      same.1.1,
      subst (λ (y : ℕ). Moves k.net y (Decide x) before post) (sym same.0)
          (moved (Moves k.net x (Decide x) before) (deciding k.net x before) post same.1.2
          (moves-deciding limit k.net x before may (count_sent k.net before.steps x before.view _ now))),
    ))
    (λ (other : (r ≢ x) × (post_at k r ≡ Some post)). (post, other.1, moves-decide_other k.net r x post other.0))
    (post_before x r (deciding k.net x) k post at)

decide_in_step : (limit : ℕ) (k : CoreState) (x : ℕ) → IsInStep limit k → holds_at (may_decide limit k.net x) (post_at k x) ≡ true → IsInStep limit (with_post x (deciding k.net x) k)
decide_in_step limit k x sound ready = record {
  grid = sound.grid;
  count = length-changed_at x (deciding k.net x) k.posts ∙ sound.count;
  posts = λ r post at. ⊎_elim
      (λ (same : (r ≡ x) × ((before : Post) × (post_at k r ≡ Some before) × (deciding k.net x before ≡ post))).
      let at_x : post_at k x ≡ Some same.1.0 = subst (λ (y : ℕ). post_at k y ≡ Some same.1.0) same.0 same.1.1 in
      let may = at_router (may_decide limit k.net x) k x same.1.0 ready at_x in
      subst (λ (y : ℕ). IsPostInStep limit k.net y post) (sym same.0) (moved (IsPostInStep limit k.net x) (deciding k.net x same.1.0) post same.1.2
      (finished_in_step limit k.net x (decided_post k.net x same.1.0) (decided_in_step limit k.net x same.1.0 sound.grid (sound.posts x same.1.0 at_x) may) refl)))
      (λ (other : (r ≢ x) × (post_at k r ≡ Some post)). sound.posts r post other.1)
      (post_before x r (deciding k.net x) k post at);
  wires = λ r port s q post sender at_r at_s to.
      let receiver = decide_moves limit k x r post sound ready at_r in
      let source = decide_moves limit k x s sender sound ready at_s in
      let back = link_back k.net.relation.grid r port s q sound.grid (router_within limit k sound r receiver.0 receiver.1) to in
      let taken = receiver.2.taken port (linked_when k.net r port (s, q) to) in
      let put = source.2.put q (linked_when k.net s q (r, port) back.back) in
      holds_same k.net r port (cycle_taken port receiver.0) (cycle_put q source.0) (cycle_taken port post) (cycle_put q sender) (wire_of receiver.0 port) (wire_of post port)
      (omega (arith, taken)) (omega (arith, put))
      (sym (kept_wire x r port (deciding k.net x) k receiver.0 post (λ one. finished-wires k.net (decided_post k.net x one)) receiver.1 at_r))
      (sound.wires r port s q receiver.0 source.0 receiver.1 source.1 to);
}

-- ---- Put

-- the core after a Put at a port that leads to this place
abbrev put_core : CoreState → ℕ → ℕ → Option (ℕ × ℕ) → CoreState
put_core k x p to = onto_wire to (beat_to_send p (post_at k x)) (with_post x (putting k.net p) k)

putting_moves : (limit : ℕ) (k : CoreState) (x p r : ℕ) (post : Post) → IsInStep limit k → is_linked k.net x p ≡ true → holds_at (may_put p) (post_at k x) ≡ true
    → post_at (with_post x (putting k.net p) k) r ≡ Some post → Before k r (Put x p) post
putting_moves limit k x p r post sound link ready at =
    ⊎_elim
    (λ (same : (r ≡ x) × ((before : Post) × (post_at k r ≡ Some before) × (putting k.net p before ≡ post))).
    let before = same.1.0 in
    let at_x : post_at k x ≡ Some before = subst (λ (y : ℕ). post_at k y ≡ Some before) same.0 same.1.1 in (
      before,
      same.1.1,
      subst (λ (y : ℕ). Moves k.net y (Put x p) before post) (sym same.0)
          (moved (Moves k.net x (Put x p) before) (putting k.net p before) post same.1.2
          (moves-putting limit k.net x p before (sound.posts x before at_x) link (at_router (may_put p) k x before ready at_x))),
    ))
    (λ (other : (r ≢ x) × (post_at k r ≡ Some post)). (post, other.1, moves-put_other k.net r x p post other.0))
    (post_before x r (putting k.net p) k post at)

moves-receiving : (net : Setup) (r o : ℕ) (e : Event) (beat : Beat) (before post : Post) → Moves net r e before post → Moves net r e before (receiving o beat post)
moves-receiving net r o e beat before post moves = record { taken = moves.taken; put = moves.put; cycle = moves.cycle }

put_moves : (limit : ℕ) (k : CoreState) (x p y o r : ℕ) (post : Post) → IsInStep limit k → is_linked k.net x p ≡ true → holds_at (may_put p) (post_at k x) ≡ true
    → post_at (put_core k x p (Some (y, o))) r ≡ Some post → Before k r (Put x p) post
put_moves limit k x p y o r post sound link ready at =
    let beat = beat_to_send p (post_at k x) in
    ⊎_elim
    (λ (same : (r ≡ y) × ((mid : Post) × (post_at (with_post x (putting k.net p) k) r ≡ Some mid) × (receiving o beat mid ≡ post))).
    let before = putting_moves limit k x p r same.1.0 sound link ready same.1.1 in
    (before.0, before.1, moved (Moves k.net r (Put x p) before.0) (receiving o beat same.1.0) post same.1.2 (moves-receiving k.net r o (Put x p) beat before.0 same.1.0 before.2)))
    (λ (other : (r ≢ y) × (post_at (with_post x (putting k.net p) k) r ≡ Some post)). putting_moves limit k x p r post sound link ready other.1)
    (post_before y r (receiving o beat) (with_post x (putting k.net p) k) post at)

-- the wires after a Put
put_wire : (limit : ℕ) (k : CoreState) (x p y o r port : ℕ) (before post : Post) → IsInStep limit k → is_linked k.net y o ≡ true
    → post_at k r ≡ Some before → post_at (put_core k x p (Some (y, o))) r ≡ Some post
    → ((r ≡ y) × (port ≡ o) × (wire_of post port ≡ wire_of before port ++ beat_to_send p (post_at k x) ∷ []))
    ⊎ (((r ≡ y) × (port ≡ o) → ⊥) × (wire_of post port ≡ wire_of before port))
put_wire limit k x p y o r port before post sound link at at_now =
    let beat = beat_to_send p (post_at k x) in
    ⊎_elim
    (λ (same : (r ≡ y) × ((mid : Post) × (post_at (with_post x (putting k.net p) k) r ≡ Some mid) × (receiving o beat mid ≡ post))).
    let mid = same.1.0 in
    let kept = kept_wire x r port (putting k.net p) k before mid (λ one. finished-wires k.net (put_post p one)) at same.1.1 in
    ⊎_elim
    (λ (e : port ≡ o).
    let kept_o = kept_wire x r o (putting k.net p) k before mid (λ one. finished-wires k.net (put_post p one)) at same.1.1 in
    inl (
      same.0,
      e,
      ap (λ (now : Post). wire_of now port) (sym same.1.2)
          ∙ ap (λ i. get_or (set mid.wires o (wire_of mid o ++ beat ∷ [])) i []) e
          ∙ get_or-set_same mid.wires o (wire_of mid o ++ beat ∷ []) [] (within mid same.0 same.1.1)
          ∙ ap (λ (wire : List Beat). wire ++ beat ∷ []) (kept_o ∙ ap (wire_of before) (sym e)),
    ))
    (λ (n : port ≢ o).
    inr (
      (λ both. n both.1),
      ap (λ (now : Post). wire_of now port) (sym same.1.2) ∙ get_or-set_other mid.wires o port (wire_of mid o ++ beat ∷ []) [] n ∙ kept,
    ))
    (cases_eq port o))
    (λ (other : (r ≢ y) × (post_at (with_post x (putting k.net p) k) r ≡ Some post)).
    inr ((λ both. other.0 both.0), kept_wire x r port (putting k.net p) k before post (λ one. finished-wires k.net (put_post p one)) at other.1))
    (post_before y r (receiving o beat) (with_post x (putting k.net p) k) post at_now)
  where
    within : (mid : Post) → r ≡ y → post_at (with_post x (putting k.net p) k) r ≡ Some mid → o < length mid.wires
    within mid same at_mid =
        let l = linked_port k.net y o link in
        ⊎_elim
        (λ (here : (r ≡ x) × ((one : Post) × (post_at k r ≡ Some one) × (putting k.net p one ≡ mid))).
        let e : length mid.wires ≡ length here.1.0.wires = ap (λ (now : Post). length now.wires) (sym here.1.2) ∙ ap length (finished-wires k.net (put_post p here.1.0)) in
        omega (arith, (sound.posts r here.1.0 here.1.1).wires))
        (λ (there : (r ≢ x) × (post_at k r ≡ Some mid)). omega (arith, (sound.posts r mid there.1).wires))
        (post_before x r (putting k.net p) k mid at_mid)

put_in_core : (limit : ℕ) (k : CoreState) (x p y o : ℕ) → IsInStep limit k → neighbour k.net.relation.grid x p ≡ Some (y, o) → holds_at (may_put p) (post_at k x) ≡ true
    → IsInStep limit (put_core k x p (Some (y, o)))
put_in_core limit k x p y o sound to_y ready = record {
  grid = sound.grid;
  count = length-changed_at y (receiving o beat) (with_post x (putting k.net p) k).posts ∙ length-changed_at x (putting k.net p) k.posts ∙ sound.count;
  posts = λ r post at. ⊎_elim
      (λ (same : (r ≡ y) × ((mid : Post) × (post_at (with_post x (putting k.net p) k) r ≡ Some mid) × (receiving o beat mid ≡ post))).
      moved (IsPostInStep limit k.net r) (receiving o beat same.1.0) post same.1.2
      (receiving_in_step limit k.net r o beat same.1.0 (putter r same.1.0 same.1.1) (subst (λ (z : ℕ). is_linked k.net z o ≡ true) (sym same.0) link_back_y)))
      (λ (other : (r ≢ y) × (post_at (with_post x (putting k.net p) k) r ≡ Some post)). putter r post other.1)
      (post_before y r (receiving o beat) (with_post x (putting k.net p) k) post at);
  wires = λ r port s q post sender at_r at_s to.
      let net = k.net in
      let receiver = put_moves limit k x p y o r post sound link ready at_r in
      let source = put_moves limit k x p y o s sender sound link ready at_s in
      let in_net = router_within limit k sound r receiver.0 receiver.1 in
      let back = link_back k.net.relation.grid r port s q sound.grid in_net to in
      let taken = receiver.2.taken port (linked_when net r port (s, q) to) in
      let put = source.2.put q (linked_when net s q (r, port) back.back) in
      let was = sound.wires r port s q receiver.0 source.0 receiver.1 source.1 to in
      ⊎_elim
      (λ (here : (r ≡ y) × (port ≡ o) × (wire_of post port ≡ wire_of receiver.0 port ++ beat ∷ [])).
      let from : neighbour k.net.relation.grid r port ≡ Some (x, p) = subst (λ (z : ℕ). neighbour k.net.relation.grid z port ≡ Some (x, p)) (sym here.0) (subst (λ (z : ℕ). neighbour k.net.relation.grid y z ≡ Some (x, p)) (sym here.1) back_y.back) in
      let ends = same-ports s q x p (sym to ∙ from) in
      let one : cycle_put q source.0 + one_if (is_put s q (Put x p)) ≡ cycle_put q source.0 + 1 = ap (λ b. cycle_put q source.0 + one_if b) (both s x q p ends.0 ends.1) in
      let at_x : post_at k x ≡ Some source.0 = subst (λ (z : ℕ). post_at k z ≡ Some source.0) ends.0 source.1 in
      let is : beat ≡ beat_at (lockstep_at net (cycle_put q source.0)).wires r port =
      sent source.0 at_x ∙ ap (λ n. beat_at (lockstep_at net n).wires y o) (ap (λ z. cycle_put z source.0) (sym ends.1))
      ∙ ap (λ z. beat_at (lockstep_at net (cycle_put q source.0)).wires z o) (sym here.0) ∙ ap (beat_at (lockstep_at net (cycle_put q source.0)).wires r) (sym here.1) in
      holds_same net r port (cycle_taken port receiver.0) (cycle_put q source.0 + 1) (cycle_taken port post) (cycle_put q sender) (wire_of receiver.0 port ++ beat ∷ []) (wire_of post port)
      (omega (arith, taken)) (sym (put ∙ one)) (sym here.2)
      (holds_put net r port (cycle_taken port receiver.0) (cycle_put q source.0) (wire_of receiver.0 port) beat was is))
      (λ (other : ((r ≡ y) × (port ≡ o) → ⊥) × (wire_of post port ≡ wire_of receiver.0 port)).
      let apart : is_put s q (Put x p) ≡ false = ⊎_elim
      (λ (e : s ≡ x). ⊎_elim
      (λ (f : q ≡ p).
      let there : neighbour k.net.relation.grid x p ≡ Some (r, port) = subst (λ (z : ℕ). neighbour k.net.relation.grid z p ≡ Some (r, port)) e (subst (λ (z : ℕ). neighbour k.net.relation.grid s z ≡ Some (r, port)) f back.back) in
      absurd (other.0 (same-ports r port y o (sym there ∙ to_y))))
      (λ (n : q ≢ p). not_second s x q p n) (cases_eq q p))
      (λ (n : s ≢ x). not_first s x q p n) (cases_eq s x) in
      let none : cycle_put q source.0 + one_if (is_put s q (Put x p)) ≡ cycle_put q source.0 + 0 = ap (λ b. cycle_put q source.0 + one_if b) apart in
      holds_same net r port (cycle_taken port receiver.0) (cycle_put q source.0) (cycle_taken port post) (cycle_put q sender) (wire_of receiver.0 port) (wire_of post port)
      (omega (arith, taken)) (omega (arith, put, none)) (sym other.1) was)
      (put_wire limit k x p y o r port receiver.0 post sound link_back_y receiver.1 at_r);
}
  where
    beat : Beat
    beat = beat_to_send p (post_at k x)

    link : is_linked k.net x p ≡ true
    link = linked_when k.net x p (y, o) to_y

    putting_router : (post : Post) × (post_at k x ≡ Some post) × (may_put p post ≡ true)
    putting_router = router_when (may_put p) (post_at k x) ready

    back_y : IsLinkBack k.net.relation.grid x p y o
    back_y = link_back k.net.relation.grid x p y o sound.grid (router_within limit k sound x putting_router.0 putting_router.1) to_y

    link_back_y : is_linked k.net y o ≡ true
    link_back_y = linked_when k.net y o (x, p) back_y.back

    putter : (r : ℕ) (mid : Post) → post_at (with_post x (putting k.net p) k) r ≡ Some mid → IsPostInStep limit k.net r mid
    putter r mid at = ⊎_elim
        (λ (same : (r ≡ x) × ((before : Post) × (post_at k r ≡ Some before) × (putting k.net p before ≡ mid))).
        let at_x : post_at k x ≡ Some same.1.0 = subst (λ (z : ℕ). post_at k z ≡ Some same.1.0) same.0 same.1.1 in
        let before_sound = sound.posts x same.1.0 at_x in
        let within : p < length same.1.0.unput = let l = linked_port k.net x p link in omega (arith, before_sound.unput) in
        let decided = before_sound.some_unput p (at_router (may_put p) k x same.1.0 ready at_x) in
        subst (λ (z : ℕ). IsPostInStep limit k.net z mid) (sym same.0) (moved (IsPostInStep limit k.net x) (putting k.net p same.1.0) mid same.1.2
        (finished_in_step limit k.net x (put_post p same.1.0) (put_in_step limit k.net x p same.1.0 before_sound within) decided)))
        (λ (other : (r ≢ x) × (post_at k r ≡ Some mid)). sound.posts r mid other.1)
        (post_before x r (putting k.net p) k mid at)

    sent : (post : Post) → post_at k x ≡ Some post → beat ≡ beat_at (lockstep_at k.net (cycle_put p post)).wires y o
    sent post at =
        let has = at_router (may_put p) k x post ready at in
        let here = beat_when post.unput p has in
        let before_sound = sound.posts x post at in
        let decided = before_sound.some_unput p has in
        let cycle : post.steps + 1 ≡ post.steps + 1 + 0 = omega arith in
        ap (beat_to_send p) at ∙ ap (λ (o : Option Beat). unwrap_or o idle_beat) here.1
        ∙ before_sound.beats_unput p y o here.0 here.1 to_y
        ∙ ap (λ n. beat_at (lockstep_at k.net n).wires y o) (cycle ∙ sym (ap (λ c. post.steps + 1 + one_if (c && not (has_beat post.unput p))) decided ∙ ap (λ c. post.steps + 1 + one_if (not c)) has))

-- ---- any event

pub moves : (limit : ℕ) (k : CoreState) (e : Event) (r : ℕ) (post : Post) → IsInStep limit k → is_ready limit k e ≡ true → post_at (happens k e) r ≡ Some post
    → (before : Post) × (post_at k r ≡ Some before) × Moves k.net r e before post
unfolding is_ready happens
moves limit k (Take x p) r post sound ready at =
    let parts = and_parts (is_linked k.net x p) (holds_at (may_take limit p) (post_at k x)) ready in
    take_moves limit k x p r post sound parts.0 parts.1 at
moves limit k (Decide x) r post sound ready at = decide_moves limit k x r post sound ready at
moves limit k (Put x p) r post sound ready at =
    let parts = and_parts (is_linked k.net x p) (holds_at (may_put p) (post_at k x)) ready in
    let to = some-value (neighbour k.net.relation.grid x p) parts.0 in
    put_moves limit k x p to.0.0 to.0.1 r post sound parts.0 parts.1 (subst (λ (t : Option (ℕ × ℕ)). post_at (put_core k x p t) r ≡ Some post) to.1 at)

pub happens_in_step : (limit : ℕ) (k : CoreState) (e : Event) → IsInStep limit k → is_ready limit k e ≡ true → IsInStep limit (happens k e)
unfolding is_ready happens
happens_in_step limit k (Take x p) sound ready =
    let parts = and_parts (is_linked k.net x p) (holds_at (may_take limit p) (post_at k x)) ready in
    take_in_step limit k x p sound parts.0 parts.1
happens_in_step limit k (Decide x) sound ready = decide_in_step limit k x sound ready
happens_in_step limit k (Put x p) sound ready =
    let parts = and_parts (is_linked k.net x p) (holds_at (may_put p) (post_at k x)) ready in
    let to = some-value (neighbour k.net.relation.grid x p) parts.0 in
    subst (λ (t : Option (ℕ × ℕ)). IsInStep limit (put_core k x p t)) (sym to.1) (put_in_core limit k x p to.0.0 to.0.1 sound to.1 parts.1)
