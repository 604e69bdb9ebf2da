use Rattle.std.proofs.Common.{◌≡◌, ℕ, ◌+◌, ◌<◌, ◌∙◌, Bool, List, ap, ap₂, sym, arith, bit_or}
use Rattle.std.specs.Prelude.{◌&&◌, nat_eq, nat_le}
use Rattle.noc_packet.specs.Set.{has_bit}
use Rattle.noc_sets.specs.Planes.{any_from}
use Rattle.noc_sets.specs.Sets.{less, lowest}
use Rattle.noc_sets.specs.Unions.{some_below}
use Rattle.noc_columns.specs.Picks.{port_at}
use Rattle.noc_columns.specs.Planes.{list_of, planes_by}
use Rattle.noc_columns.specs.Words.{set_of, word}
use Rattle.noc_columns.specs.declared.channels.Inputs.{Inputs}
use Rattle.noc_columns.specs.declared.injection.Injection.{Injection}
use Rattle.noc_columns.specs.declared.planes.Planes.{Planes}
use Rattle.noc_columns.specs.declared.ports.Ports.{Ports}
use Rattle.noc_columns.proofs.InjectionLemmas.{begins-is, begun-is, free_word, room_word, side-index, some-begun, starts-is, went-is}
use Rattle.noc_columns.proofs.PassLemmas.{some-same}
use Rattle.noc_columns.proofs.PickLemmas.{some-asks}
use Rattle.noc_columns.proofs.WalkLemmas.{union-alike}
use Rattle.noc_columns.proofs.injection.inject.Goals as goal
use Rattle.noc_columns.proofs.injection.inject.Goals.{else-frame, then-frame}

-- what is injected and told in each local channel, where counts are deep or not
record HasEach (local : Ports) (places : Planes ℕ) (starts : ℕ) (inputs : Inputs (List ℕ)) (old : Injection (List ℕ)) (deep : Bool) (new : Injection (List ℕ)) (some : ℕ) : Type 0 where
  injecting : new.injecting ≡ old.injecting
  went : (v : ℕ) → v < local.vcs → word (local.first + v) new.went ≡ room_word deep places inputs old.injecting (local.first + v)
  free : (v : ℕ) → v < local.vcs → word (local.first + v) new.begun ≡ free_word deep inputs starts (local.first + v)
  some_went : (r : ℕ) → has_bit some r ≡ some_below local.vcs (λ v. has_bit (word (local.first + v) new.went) r)

pub begin_first-begins-requires-clause-none : goal.begin_first-begins-requires-clause-none
begin_first-begins-requires-clause-none c =
    let deep = c.args.frame.now.deep in
    let inputs = c.args.inputs.now in
    let Each = HasEach c.args.local.now c.args.frame.now.places c.less-starts.result inputs c.args.injection.now in
    let each : Each deep c.if-frame.injection c.if-frame.went = elim c.if-frame.branch [
      | then-frame w ↦
          let told = w.inject_each-went.ensures in
          coe 1 0 (i. Each (w.if-frame.true i) (w.injection-is i) (w.went-is i)) (record { injecting = told.injecting; went = told.went; free = told.free; some_went = told.some })
      | else-frame w ↦
          let told = w.inject_each-went-else-frame.ensures in
          coe 1 0 (i. Each (w.if-frame.false i) (w.injection-is i) (w.went-is i)) (record { injecting = told.injecting; went = told.went; free = told.free; some_went = told.some })
    ] in
    λ zero v l. each.free v l ∙ ap (λ s. free_word deep inputs s (c.args.local.now.first + v)) zero

pub returns : goal.returns
returns c =
    let local = c.args.local.now in
    let n = port_at local 0 in
    let deep = c.args.frame.now.deep in
    let places = c.args.frame.now.places in
    let inputs = c.args.inputs.now in
    let injecting = c.args.injection.now.injecting in
    let starts = c.less-starts.result in
    let Each = HasEach local places starts inputs c.args.injection.now in
    let given : Each deep c.if-frame.injection c.if-frame.went = elim c.if-frame.branch [
      | then-frame w ↦
          let told = w.inject_each-went.ensures in
          coe 1 0 (i. Each (w.if-frame.true i) (w.injection-is i) (w.went-is i)) (record { injecting = told.injecting; went = told.went; free = told.free; some_went = told.some })
      | else-frame w ↦
          let told = w.inject_each-went-else-frame.ensures in
          coe 1 0 (i. Each (w.if-frame.false i) (w.injection-is i) (w.went-is i)) (record { injecting = told.injecting; went = told.went; free = told.free; some_went = told.some })
    ] in
    let chosen = c.begin_first-begins.ensures in
    let new_went = c.if-frame.injection.went in
    let free_words = c.if-frame.injection.begun in
    let new_begun = c.begin_first-begins.new.begun in
    let free = λ (i : ℕ). free_word deep inputs starts i in
    let room = λ (i : ℕ). room_word deep places inputs injecting i in
    let at = λ (k : ℕ). side-index local k c.requires in
    let was = λ (k : ℕ) (l : k < n.size). given.free k l ∙ ap free (sym (at k)) in
    let went = λ (k : ℕ) (l : k < n.size). ap (λ i. word i new_went) (at k) ∙ given.went k l ∙ ap room (sym (at k)) in
    let begun = λ (k : ℕ) (l : k < n.size).
    ap (λ i. word i new_begun) (at k)
    ∙ chosen.begun k l
    ∙ ap₂ less (was k l) (union-alike 0 k (λ j. word (local.first + j) free_words) (λ j. free (n.index j)) (λ j m. was j (omega (arith, l, m)))) in
    let rest = λ (r : ℕ). bit_or (bit_or (set_of n r inputs.waiting) (set_of n r inputs.active)) (any_from 0 (list_of deep (planes_by (set_of n r) inputs.len))) in
    record {
      injecting = given.injecting;
      went = λ r d. went-is deep places inputs injecting n r new_went went;
      begun = λ r cycle due_at d due.
          let due_in = ap (λ w. has_bit w r) c.less-starts.ensures ∙ starts-is n r c.args.due c.some_of-busy.result injecting (nat_le due_at cycle) due (c.some_of-busy.ensures r) in
          begun-is deep inputs n r starts new_begun begun
          ∙ ap lowest (begins-is n r starts (rest r) (nat_le due_at cycle && nat_eq (set_of n r injecting) 0) due_in);
      some_went = λ r.
          given.some_went r
          ∙ some-same n.size (λ k. has_bit (word (local.first + k) new_went) r) (λ k. has_bit (word (n.index k) new_went) r) (λ k l. ap (λ i. has_bit (word i new_went) r) (sym (at k)))
          ∙ some-asks n r new_went;
      some_begun = λ r.
          ap (λ w. has_bit w r) (chosen.some ∙ union-alike 0 n.size (λ j. word (local.first + j) free_words) (λ j. free (n.index j)) was)
          ∙ some-begun deep inputs n r starts new_begun begun;
    }
