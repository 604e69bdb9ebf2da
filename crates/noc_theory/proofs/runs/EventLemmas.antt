-- What one event that is ready does to the cycles of a router.
use Rattle.std.proofs.Common.{◌≡◌, ◌≢◌, ℕ, ◌+◌, ◌<◌, ◌≤◌, Bool, true, false, not, ◌&&◌, ◌||◌, List, [], ◌∷◌, length, get_or, set, map, Option, Some, None, is_some, is_none, slice_get, refl, ap, sym, ◌∙◌, ⊎_elim, arith, eq-eqb, ne_eqb}
use Rattle.std.specs.Prelude.{slice_index_or, nat_eq, nat_lt, unwrap_or, if◌then◌else◌}
use Rattle.noc_theory.proofs.Common.{list_all_at, true_from_ne_false, false≢true, cases_eq, cases_lt, not-true, and_parts, ltb-true, map_indexed, one_if, neighbour, get_or-map_indexed, Beat, local_step, idle_beat, Event, Take, Decide, Put, Post, all_have, has_beat, is_linked, link_ports, may_decide, none_has, resting_post, taking, wire_of, IsPostInStep, cycle_of, cycle_put, cycle_taken, Setup, is_decide, is_put, is_take}
use Rattle.noc_theory.specs.Core.{deciding, post_after_last_put, may_put, may_take, putting}
use Rattle.noc_theory.proofs.runs.PostLemmas.{all_below, has_none, has_past, has_set_other, has_set_same}
use Rattle.noc_theory.proofs.runs.RunLemmas.{no_link}

-- a port with a link is a link port
pub linked_port : (net : Setup) (r port : ℕ) → is_linked net r port ≡ true → port < link_ports net
linked_port net r port e =
    ⊎_elim (λ (l : port < link_ports net). l)
    (λ (past : link_ports net ≤ port).
    let none : is_linked net r port ≡ false = ap is_some (no_link net r port past) in
    absurd (cc (e, none)))
    (cases_lt port (link_ports net))

pub linked_when : (net : Setup) (r port : ℕ) (to : ℕ × ℕ) → neighbour net.relation.grid r port ≡ Some to → is_linked net r port ≡ true
linked_when net r port to e = ap is_some e

-- ---- the end of a cycle

pub none_at : (beats : List (Option Beat)) (port : ℕ) → none_has beats ≡ true → has_beat beats port ≡ false
none_at beats port e =
    ⊎_elim
    (λ (l : port < length beats). by (get_or beats port None) (true_from_ne_false (is_none (get_or beats port None))
    (λ f. false≢true (sym (list_all_at (λ beat. is_none beat) beats port None l f) ∙ e))))
    (λ (past : length beats ≤ port). has_past beats port past)
    (cases_lt port (length beats))
  where
    by : (beat : Option Beat) → is_none beat ≡ true → is_some beat ≡ false
    by None f = refl
    by (Some beat) f = sym f

pub finished-taken : (net : Setup) (post : Post) (port : ℕ) → has_beat post.taken port ≡ true → cycle_taken port (post_after_last_put net post) ≡ cycle_taken port post
finished-taken net post port here = by (none_has post.unput)
  where
    by : (b : Bool) → cycle_taken port (if b then resting_post net post.view (post.steps + 1) post.wires else post) ≡ cycle_taken port post
    by true =
        let same : post.steps + 1 + 0 ≡ post.steps + 1 = omega arith in
        ap (λ c. post.steps + 1 + one_if c) (has_none (link_ports net) port) ∙ same ∙ sym (ap (λ c. post.steps + one_if c) here)
    by false = refl

pub finished-put : (net : Setup) (post : Post) (port : ℕ) → post.decided ≡ true → cycle_put port (post_after_last_put net post) ≡ cycle_put port post
finished-put net post port decided = by (none_has post.unput) refl
  where
    by : (b : Bool) → none_has post.unput ≡ b → cycle_put port (if b then resting_post net post.view (post.steps + 1) post.wires else post) ≡ cycle_put port post
    by true e =
        let same : post.steps + 1 + 1 + 0 ≡ post.steps + 1 + 1 = omega arith in
        same ∙ sym (ap (λ c. post.steps + 1 + one_if (c && not (has_beat post.unput port))) decided ∙ ap (λ c. post.steps + 1 + one_if (not c)) (none_at post.unput port e))
    by false e = refl

pub finished-cycle : (net : Setup) (post : Post) → post.decided ≡ true → cycle_of (post_after_last_put net post) ≡ cycle_of post
finished-cycle net post decided = by (none_has post.unput)
  where
    by : (b : Bool) → cycle_of (if b then resting_post net post.view (post.steps + 1) post.wires else post) ≡ cycle_of post
    by true =
        let same : post.steps + 1 + 0 ≡ post.steps + 1 = omega arith in
        same ∙ sym (ap (λ c. post.steps + one_if c) decided)
    by false = refl

pub finished-wires : (net : Setup) (post : Post) → (post_after_last_put net post).wires ≡ post.wires
finished-wires net post = by (none_has post.unput)
  where
    by : (b : Bool) → (if b then resting_post net post.view (post.steps + 1) post.wires else post).wires ≡ post.wires
    by true = refl
    by false = refl

-- ---- which event it is

one_more : (a : ℕ) (b : Bool) → b ≡ false → a ≡ a + one_if b
one_more a b e = let same : a ≡ a + 0 = omega arith in same ∙ sym (ap (λ c. a + one_if c) e)

pub both : (a b c d : ℕ) → a ≡ b → c ≡ d → (nat_eq a b && nat_eq c d) ≡ true
both a b c d p q = ap (λ t. t && nat_eq c d) (eq-eqb a b p) ∙ eq-eqb c d q

pub not_first : (a b c d : ℕ) → a ≢ b → (nat_eq a b && nat_eq c d) ≡ false
not_first a b c d p = ap (λ t. t && nat_eq c d) (ne_eqb a b p)

pub not_second : (a b c d : ℕ) → c ≢ d → (nat_eq a b && nat_eq c d) ≡ false
not_second a b c d q = ap (λ t. nat_eq a b && t) (ne_eqb c d q) ∙ and_false (nat_eq a b)
  where
    and_false : (t : Bool) → (t && false) ≡ false
    and_false true = refl
    and_false false = refl

-- how far an event takes a router
pub record Moves (net : Setup) (r : ℕ) (e : Event) (before after : Post) : Type 0 where
  pub taken : (port : ℕ) → is_linked net r port ≡ true → cycle_taken port after ≡ cycle_taken port before + one_if (is_take r port e)
  pub put : (port : ℕ) → is_linked net r port ≡ true → cycle_put port after ≡ cycle_put port before + one_if (is_put r port e)
  pub cycle : cycle_of after ≡ cycle_of before + one_if (is_decide r e)

-- an event of another router
pub moves-take_other : (net : Setup) (r x p : ℕ) (post : Post) → r ≢ x → Moves net r (Take x p) post post
moves-take_other net r x p post n = record {
  taken = λ port linked. one_more (cycle_taken port post) (is_take r port (Take x p)) (not_first r x port p n);
  put = λ port linked. one_more (cycle_put port post) false refl;
  cycle = one_more (cycle_of post) false refl;
}

pub moves-decide_other : (net : Setup) (r x : ℕ) (post : Post) → r ≢ x → Moves net r (Decide x) post post
moves-decide_other net r x post n = record {
  taken = λ port linked. one_more (cycle_taken port post) false refl;
  put = λ port linked. one_more (cycle_put port post) false refl;
  cycle = one_more (cycle_of post) (nat_eq r x) (ne_eqb r x n);
}

pub moves-put_other : (net : Setup) (r x p : ℕ) (post : Post) → r ≢ x → Moves net r (Put x p) post post
moves-put_other net r x p post n = record {
  taken = λ port linked. one_more (cycle_taken port post) false refl;
  put = λ port linked. one_more (cycle_put port post) (is_put r port (Put x p)) (not_first r x port p n);
  cycle = one_more (cycle_of post) false refl;
}

-- a beat is taken
pub front_some : (beats : List Beat) → 0 < length beats → is_some (slice_get beats 0) ≡ true
front_some [] l = absurd (omega arith)
front_some (beat ∷ beats) l = refl

pub may_take-parts : (limit p : ℕ) (post : Post) → may_take limit p post ≡ true → (0 < length (wire_of post p)) × (has_beat post.taken p ≡ false) × (post.steps < limit)
may_take-parts limit p post ready =
    let outer = and_parts (nat_lt 0 (length (wire_of post p)) && not (has_beat post.taken p)) (nat_lt post.steps limit) ready in
    let inner = and_parts (nat_lt 0 (length (wire_of post p))) (not (has_beat post.taken p)) outer.0 in
    (ltb-true 0 (length (wire_of post p)) inner.0, not-true (has_beat post.taken p) inner.1, ltb-true post.steps limit outer.1)

pub moves-taking : (limit : ℕ) (net : Setup) (r x p : ℕ) (post : Post) → r ≡ x → p < length post.taken → may_take limit p post ≡ true
    → Moves net r (Take x p) post (taking p post)
moves-taking limit net r x p post s long ready = record {
  taken = λ port linked. ⊎_elim (λ (e : port ≡ p).
      let now : has_beat (set post.taken p (slice_get (wire_of post p) 0)) port ≡ true =
      ap (has_beat (set post.taken p (slice_get (wire_of post p) 0))) e ∙ has_set_same post.taken p (slice_get (wire_of post p) 0) long ∙ front_some (wire_of post p) parts.0 in
      let was : has_beat post.taken port ≡ false = ap (has_beat post.taken) e ∙ parts.1 in
      let same : post.steps + 1 ≡ post.steps + 0 + 1 = omega arith in
      ap (λ c. post.steps + one_if c) now ∙ same
      ∙ sym (ap (λ c. post.steps + one_if c + one_if (is_take r port (Take x p))) was ∙ ap (λ c. post.steps + 0 + one_if c) (both r x port p s e)))
      (λ (n : port ≢ p).
      ap (λ c. post.steps + one_if c) (has_set_other post.taken p port (slice_get (wire_of post p) 0) n)
      ∙ one_more (cycle_taken port post) (is_take r port (Take x p)) (not_second r x port p n))
      (cases_eq port p);
  put = λ port linked. one_more (cycle_put port post) false refl;
  cycle = one_more (cycle_of post) false refl;
}
  where
    parts : (0 < length (wire_of post p)) × (has_beat post.taken p ≡ false) × (post.steps < limit)
    parts = may_take-parts limit p post ready

-- a router decides
pub all_at : (net : Setup) (r : ℕ) (beats : List (Option Beat)) (port : ℕ) → all_have net r beats ≡ true → is_linked net r port ≡ true → has_beat beats port ≡ true
all_at net r beats port e linked =
    sym (ap (λ c. not c || has_beat beats port) linked)
    ∙ all_below (λ p. not (is_linked net r p) || has_beat beats p) (link_ports net) port e (linked_port net r port linked)

pub may_decide-parts : (limit : ℕ) (net : Setup) (r : ℕ) (post : Post) → may_decide limit net r post ≡ true
    → (post.decided ≡ false) × (all_have net r post.taken ≡ true) × (post.steps < limit)
may_decide-parts limit net r post ready =
    let outer = and_parts (not post.decided && all_have net r post.taken) (nat_lt post.steps limit) ready in
    let inner = and_parts (not post.decided) (all_have net r post.taken) outer.0 in
    (not-true post.decided inner.0, inner.1, ltb-true post.steps limit outer.1)

-- a router that has made its cycle, before it puts a beat
abbrev pub decided_post : Setup → ℕ → Post → Post
decided_post net r post =
    let after = local_step net.relation post.view (map (λ beat. unwrap_or beat idle_beat) post.taken) post.steps in
    record post {
      view = after.0;
      decided = true;
      unput = map_indexed (λ port beat. if is_linked net r port then Some beat else None) after.1;
    }

pub has_decided : (net : Setup) (r : ℕ) (beats : List Beat) (port : ℕ) → port < length beats → is_linked net r port ≡ true
    → slice_index_or (map_indexed (λ p beat. if is_linked net r p then Some beat else None) beats) port None ≡ Some (get_or beats port idle_beat)
has_decided net r beats port l linked =
    get_or-map_indexed (λ (p : ℕ) (beat : Beat). if is_linked net r p then Some beat else None) beats port idle_beat None l
    ∙ ap (λ c. if c then Some (get_or beats port idle_beat) else None) linked

pub moves-deciding : (limit : ℕ) (net : Setup) (x : ℕ) (post : Post) → may_decide limit net x post ≡ true
    → length (local_step net.relation post.view (map (λ beat. unwrap_or beat idle_beat) post.taken) post.steps).1 ≡ link_ports net
    → Moves net x (Decide x) post (deciding net x post)
moves-deciding limit net x post ready count =
    let parts = may_decide-parts limit net x post ready in
    let beats = (local_step net.relation post.view (map (λ beat. unwrap_or beat idle_beat) post.taken) post.steps).1 in
    record {
      taken = λ port linked. finished-taken net (decided_post net x post) port (all_at net x post.taken port parts.1 linked) ∙ one_more (cycle_taken port post) false refl;
      put = λ port linked.
          let within = linked_port net x port linked in
          let has : has_beat (decided_post net x post).unput port ≡ true = ap is_some (has_decided net x beats port (omega arith) linked) in
          finished-put net (decided_post net x post) port refl
          ∙ ap (λ c. post.steps + 1 + one_if (true && not c)) has
          ∙ sym (ap (λ c. post.steps + 1 + one_if (c && not (has_beat post.unput port))) parts.0)
          ∙ one_more (cycle_put port post) false refl;
      cycle =
          let same : post.steps + 1 ≡ post.steps + 0 + 1 = omega arith in
          finished-cycle net (decided_post net x post) refl ∙ same
          ∙ sym (ap (λ c. post.steps + one_if c + one_if (nat_eq x x)) parts.0 ∙ ap (λ c. post.steps + 0 + one_if c) (eq-eqb x x refl));
    }

-- a beat is put
abbrev pub put_post : ℕ → Post → Post
put_post p post = record post { unput = set post.unput p None }

pub moves-putting : (limit : ℕ) (net : Setup) (x p : ℕ) (post : Post) → IsPostInStep limit net x post → is_linked net x p ≡ true → may_put p post ≡ true
    → Moves net x (Put x p) post (putting net p post)
moves-putting limit net x p post sound link ready =
    let decided = sound.some_unput p ready in
    record {
      taken = λ port linked. finished-taken net (put_post p post) port (sound.all_taken decided port linked) ∙ one_more (cycle_taken port post) false refl;
      put = λ port linked. finished-put net (put_post p post) port decided ∙ here port decided;
      cycle = finished-cycle net (put_post p post) decided ∙ one_more (cycle_of post) false refl;
    }
  where
    within : p < length post.unput
    within = let l = linked_port net x p link in omega (arith, sound.unput)

    here : (port : ℕ) → post.decided ≡ true → cycle_put port (put_post p post) ≡ cycle_put port post + one_if (is_put x port (Put x p))
    here port decided = ⊎_elim
        (λ (e : port ≡ p).
        let now : has_beat (set post.unput p None) port ≡ false = ap (has_beat (set post.unput p None)) e ∙ has_set_same post.unput p None within in
        let was : has_beat post.unput port ≡ true = ap (has_beat post.unput) e ∙ ready in
        let same : post.steps + 1 + 1 ≡ post.steps + 1 + 0 + 1 = omega arith in
        ap (λ c. post.steps + 1 + one_if (c && not (has_beat (set post.unput p None) port))) decided ∙ ap (λ c. post.steps + 1 + one_if (not c)) now ∙ same
        ∙ sym (ap (λ c. post.steps + 1 + one_if (c && not (has_beat post.unput port)) + one_if (is_put x port (Put x p))) decided
        ∙ ap (λ c. post.steps + 1 + one_if (not c) + one_if (is_put x port (Put x p))) was
        ∙ ap (λ c. post.steps + 1 + 0 + one_if c) (both x x port p refl e)))
        (λ (n : port ≢ p).
        ap (λ c. post.steps + 1 + one_if (post.decided && not c)) (has_set_other post.unput p port None n)
        ∙ one_more (cycle_put port post) (is_put x port (Put x p)) (not_second x x port p n))
        (cases_eq port p)
