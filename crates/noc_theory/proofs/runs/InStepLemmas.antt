-- Each event that is ready keeps a core in step.
use Rattle.std.proofs.Common.{◌≡◌, ◌≢◌, ℕ, suc, ◌+◌, ◌-◌, ◌<◌, Bool, true, false, List, [], ◌∷◌, ◌++◌, length, get_or, set, drop, map, Option, Some, None, is_some, slice_get, refl, ap, sym, subst, ◌∙◌, ⊎_elim, arith}
use Rattle.std.specs.Prelude.{slice_index_or, unwrap_or, if◌then◌else◌}
use Rattle.std.proofs.lemmas.List.FromFn.{length-map-range_with_len, map-range_with_len_more}
use Rattle.noc_theory.proofs.Common.{range_with_len, cases_eq, false≢true, ext_get_or, get_or-map, get_or-set_same, get_or-set_other, length-map, length-replicate, length-set, none-some, same_Some, IsGrid, neighbour, nodes, link_back, length-map_indexed, Beat, no-value, local_step, idle_beat, one_if, Post, all_have, has_beat, is_linked, link_ports, may_decide, none_has, resting_post, taking, wire_of, beat_at, IsPostInStep, cycle_of, beats_at, lockstep_at, Setup}
use Rattle.noc_theory.specs.Core.{post_after_last_put, no_beats, receiving}
use Rattle.noc_theory.specs.InStep.{HoldsCycles, beats_of_cycles}
use Rattle.noc_theory.proofs.runs.EventLemmas.{all_at, decided_post, front_some, has_decided, linked_port, linked_when, may_decide-parts, put_post}
use Rattle.noc_theory.proofs.runs.PostLemmas.{has_none, has_set_other, has_set_same}
use Rattle.noc_theory.proofs.runs.RunLemmas.{count_row}
use Rattle.noc_theory.proofs.runs.SentLemmas.{count_sent, next_view, sent_beat, unlinked_beat, view_within}

-- ---- one router

pub finished_in_step : (limit : ℕ) (net : Setup) (r : ℕ) (post : Post) → IsPostInStep limit net r post → post.decided ≡ true → IsPostInStep limit net r (post_after_last_put net post)
finished_in_step limit net r post sound decided = by (none_has post.unput)
  where
    no_beat : (port : ℕ) (beat : Beat) → slice_index_or (no_beats net) port None ≡ Some beat → ⊥
    no_beat port beat e = false≢true (sym (has_none (link_ports net) port) ∙ ap is_some e)

    cycles : cycle_of post ≡ post.steps + 1 + 0
    cycles = let same : post.steps + 1 ≡ post.steps + 1 + 0 = omega arith in ap (λ c. post.steps + one_if c) decided ∙ same

    count : length (no_beats net) ≡ link_ports net
    count = length-replicate (link_ports net) _

    by : (b : Bool) → IsPostInStep limit net r (if b then resting_post net post.view (post.steps + 1) post.wires else post)
    by false = sound
    by true = record {
      view = subst (λ (n : ℕ). slice_get (lockstep_at net n).views r ≡ Some post.view) cycles sound.view;
      wires = sound.wires;
      taken = count;
      unput = count;
      unlinked = sound.unlinked;
      beats_taken = λ port beat e. absurd (no_beat port beat e);
      beats_unput = λ port s q beat e to. absurd (no_beat port beat e);
      some_unput = λ port e. absurd (false≢true (sym (has_none (link_ports net) port) ∙ e));
      all_taken = λ e. absurd (false≢true e);
      below_limit = λ e. absurd (false≢true e);
    }

other_port : (net : Setup) (r i port : ℕ) → is_linked net r i ≡ true → is_linked net r port ≡ false → port ≢ i
other_port net r i port link none e = false≢true (sym none ∙ ap (is_linked net r) e ∙ link)

pub taking_in_step : (limit : ℕ) (net : Setup) (r p : ℕ) (post : Post) → IsPostInStep limit net r post → is_linked net r p ≡ true → 0 < length (wire_of post p)
    → ((beat : Beat) → slice_get (wire_of post p) 0 ≡ Some beat → beat ≡ beat_at (lockstep_at net post.steps).wires r p)
    → IsPostInStep limit net r (taking p post)
taking_in_step limit net r p post sound link some first =
    let front = slice_get (wire_of post p) 0 in
    let within : p < length post.taken = let l = linked_port net r p link in omega (arith, sound.taken) in
    record {
      view = sound.view;
      wires = length-set post.wires p (drop 1 (wire_of post p)) ∙ sound.wires;
      taken = length-set post.taken p front ∙ sound.taken;
      unput = sound.unput;
      unlinked = λ port none. get_or-set_other post.wires p port (drop 1 (wire_of post p)) [] (other_port net r p port link none) ∙ sound.unlinked port none;
      beats_taken = λ port beat e. ⊎_elim
          (λ (same : port ≡ p).
          let here : slice_get (wire_of post p) 0 ≡ Some beat = sym (get_or-set_same post.taken p front None within) ∙ ap (λ i. get_or (set post.taken p front) i None) (sym same) ∙ e in
          first beat here ∙ ap (beat_at (lockstep_at net post.steps).wires r) (sym same))
          (λ (n : port ≢ p). sound.beats_taken port beat (sym (get_or-set_other post.taken p port front None n) ∙ e))
          (cases_eq port p);
      beats_unput = sound.beats_unput;
      some_unput = sound.some_unput;
      all_taken = λ decided port linked. ⊎_elim
          (λ (same : port ≡ p). ap (has_beat (set post.taken p front)) same ∙ has_set_same post.taken p front within ∙ front_some (wire_of post p) some)
          (λ (n : port ≢ p). has_set_other post.taken p port front n ∙ sound.all_taken decided port linked)
          (cases_eq port p);
      below_limit = sound.below_limit;
    }

-- the beats that were taken are those of the lockstep run
pub taken_beats : (limit : ℕ) (net : Setup) (r : ℕ) (post : Post) → IsPostInStep limit net r post → all_have net r post.taken ≡ true → r < nodes net.relation.grid
    → map (λ beat. unwrap_or beat idle_beat) post.taken ≡ beats_at (lockstep_at net post.steps).wires r
taken_beats limit net r post sound all in_net =
    ext_get_or idle_beat (map (λ beat. unwrap_or beat idle_beat) post.taken) (beats_at (lockstep_at net post.steps).wires r)
    (length-map post.taken (λ beat. unwrap_or beat idle_beat) ∙ sound.taken ∙ sym (count_row net post.steps r in_net))
    (λ port l.
    let within : port < length post.taken = let c = length-map post.taken (λ beat. unwrap_or beat idle_beat) in omega arith in
    get_or-map (λ beat. unwrap_or beat idle_beat) post.taken port None idle_beat within ∙ by port (get_or post.taken port None) refl)
  where
    by : (port : ℕ) (here : Option Beat) → get_or post.taken port None ≡ here → unwrap_or here idle_beat ≡ beat_at (lockstep_at net post.steps).wires r port
    by port (Some beat) e = sound.beats_taken port beat e
    by port None e =
        let none : is_linked net r port ≡ false = unlinked (is_linked net r port) refl in
        sym (unlinked_beat net post.steps r port (no-value (neighbour net.relation.grid r port) none))
      where
        unlinked : (b : Bool) → is_linked net r port ≡ b → is_linked net r port ≡ false
        unlinked false f = f
        unlinked true f = absurd (false≢true (sym (ap is_some e) ∙ all_at net r post.taken port all f))

pub view_now : (limit : ℕ) (net : Setup) (r : ℕ) (post : Post) → IsPostInStep limit net r post → post.decided ≡ false → slice_get (lockstep_at net post.steps).views r ≡ Some post.view
view_now limit net r post sound between =
    let same : post.steps + 0 ≡ post.steps = omega arith in
    subst (λ (n : ℕ). slice_get (lockstep_at net n).views r ≡ Some post.view) (ap (λ c. post.steps + one_if c) between ∙ same) sound.view

pub decided_in_step : (limit : ℕ) (net : Setup) (r : ℕ) (post : Post) → IsGrid net.relation.grid → IsPostInStep limit net r post → may_decide limit net r post ≡ true
    → IsPostInStep limit net r (decided_post net r post)
decided_in_step limit net r post grid sound ready =
    let taken = map (λ beat. unwrap_or beat idle_beat) post.taken in
    let parts = may_decide-parts limit net r post ready in
    let now = view_now limit net r post sound parts.0 in
    let in_net = view_within net post.steps r post.view now in
    let same : taken ≡ beats_at (lockstep_at net post.steps).wires r = taken_beats limit net r post sound parts.1 in_net in
    let count : length (local_step net.relation post.view (map (λ beat. unwrap_or beat idle_beat) post.taken) post.steps).1 ≡ link_ports net = count_sent net post.steps r post.view taken now in
    record {
      view = next_view net post.steps r post.view now ∙ ap (λ beats. Some (local_step net.relation post.view beats post.steps).0) (sym same);
      wires = sound.wires;
      taken = sound.taken;
      unput = length-map_indexed _ (local_step net.relation post.view taken post.steps).1 ∙ count;
      unlinked = sound.unlinked;
      beats_taken = sound.beats_taken;
      beats_unput = λ port s q beat e to.
          let linked = linked_when net r port (s, q) to in
          let within = linked_port net r port linked in
          let back = link_back net.relation.grid r port s q grid in_net to in
          let sent = (local_step net.relation post.view taken post.steps).1 in
          sym (same_Some (get_or sent port idle_beat) beat (sym (has_decided net r sent port (omega arith) linked) ∙ e))
          ∙ ap (λ beats. get_or (local_step net.relation post.view beats post.steps).1 port idle_beat) same
          ∙ sym (sent_beat net post.steps r port s q post.view now back.node back.port back.back);
      some_unput = λ port e. refl;
      all_taken = λ e port linked. all_at net r post.taken port parts.1 linked;
      below_limit = λ e. parts.2;
    }

pub put_in_step : (limit : ℕ) (net : Setup) (r p : ℕ) (post : Post) → IsPostInStep limit net r post → p < length post.unput → IsPostInStep limit net r (put_post p post)
put_in_step limit net r p post sound within = record {
  view = sound.view;
  wires = sound.wires;
  taken = sound.taken;
  unput = length-set post.unput p None ∙ sound.unput;
  unlinked = sound.unlinked;
  beats_taken = sound.beats_taken;
  beats_unput = λ port s q beat e to. ⊎_elim
      (λ (same : port ≡ p). absurd (none-some beat (sym (get_or-set_same post.unput p None None within) ∙ ap (λ i. get_or (set post.unput p None) i None) (sym same) ∙ e)))
      (λ (n : port ≢ p). sound.beats_unput port s q beat (sym (get_or-set_other post.unput p port None None n) ∙ e) to)
      (cases_eq port p);
  some_unput = λ port e. ⊎_elim
      (λ (same : port ≡ p). absurd (false≢true (sym (ap (has_beat (set post.unput p None)) same ∙ has_set_same post.unput p None within) ∙ e)))
      (λ (n : port ≢ p). sound.some_unput port (sym (has_set_other post.unput p port None n) ∙ e))
      (cases_eq port p);
  all_taken = sound.all_taken;
  below_limit = sound.below_limit;
}

pub receiving_in_step : (limit : ℕ) (net : Setup) (r o : ℕ) (beat : Beat) (post : Post) → IsPostInStep limit net r post → is_linked net r o ≡ true → IsPostInStep limit net r (receiving o beat post)
receiving_in_step limit net r o beat post sound link = record {
  view = sound.view;
  wires = length-set post.wires o (wire_of post o ++ beat ∷ []) ∙ sound.wires;
  taken = sound.taken;
  unput = sound.unput;
  unlinked = λ port none. get_or-set_other post.wires o port (wire_of post o ++ beat ∷ []) [] (other_port net r o port link none) ∙ sound.unlinked port none;
  beats_taken = sound.beats_taken;
  beats_unput = sound.beats_unput;
  some_unput = sound.some_unput;
  all_taken = sound.all_taken;
  below_limit = sound.below_limit;
}

-- ---- one wire

pub holds_same : (net : Setup) (r port a b c d : ℕ) (v w : List Beat) → a ≡ c → b ≡ d → v ≡ w → HoldsCycles net r port a b v → HoldsCycles net r port c d w
holds_same net r port a b c d v w p q e holds = record {
  order = omega (arith, holds.order);
  beats = sym e ∙ holds.beats ∙ ap (λ n. beats_of_cycles net r port n b) p ∙ ap (beats_of_cycles net r port c) q;
}

pub holds_some : (net : Setup) (r port a b : ℕ) (wire : List Beat) → HoldsCycles net r port a b wire → length wire ≡ b - a
holds_some net r port a b wire holds = ap length holds.beats ∙ length-map-range_with_len (λ n. beat_at (lockstep_at net n).wires r port) a (b - a)

first_cycle : (net : Setup) (r port a b : ℕ) → a < b → beats_of_cycles net r port a b ≡ beat_at (lockstep_at net a).wires r port ∷ beats_of_cycles net r port (a + 1) b
first_cycle net r port a b l =
    let more : b - a ≡ suc (b - (a + 1)) = omega arith in
    ap (λ n. map (λ m. beat_at (lockstep_at net m).wires r port) (range_with_len a n)) more

pub holds_first : (net : Setup) (r port a b : ℕ) (wire : List Beat) → HoldsCycles net r port a b wire → 0 < length wire → slice_get wire 0 ≡ Some (beat_at (lockstep_at net a).wires r port)
holds_first net r port a b wire holds some =
    let count = holds_some net r port a b wire holds in
    ap (λ (beats : List Beat). slice_get beats 0) (holds.beats ∙ first_cycle net r port a b (omega arith))

pub holds_taken : (net : Setup) (r port a b : ℕ) (wire : List Beat) → HoldsCycles net r port a b wire → 0 < length wire → HoldsCycles net r port (a + 1) b (drop 1 wire)
holds_taken net r port a b wire holds some =
    let count = holds_some net r port a b wire holds in
    record {
      order = omega arith;
      beats = ap (drop 1) (holds.beats ∙ first_cycle net r port a b (omega arith));
    }

pub holds_put : (net : Setup) (r port a b : ℕ) (wire : List Beat) (beat : Beat) → HoldsCycles net r port a b wire → beat ≡ beat_at (lockstep_at net b).wires r port
    → HoldsCycles net r port a (b + 1) (wire ++ beat ∷ [])
holds_put net r port a b wire beat holds is =
    let f = λ (n : ℕ). beat_at (lockstep_at net n).wires r port in
    let more : b + 1 - a ≡ b - a + 1 = omega (arith, holds.order) in
    record {
      order = omega (arith, holds.order);
      beats = ap (λ (beats : List Beat). beats ++ beat ∷ []) holds.beats
          ∙ ap (λ (last : Beat). beats_of_cycles net r port a b ++ last ∷ []) is
          ∙ sym (ap (λ n. map f (range_with_len a n)) more ∙ map-range_with_len_more f a (b - a) b (omega (arith, holds.order)));
    }
