use Rattle.std.proofs.Common.{◌≡◌, ℕ, ◌+◌, ◌<◌, ◌≤◌, true, false, length, slice_index}
use Rattle.std.specs.Prelude.{◌&&◌, not, nat_lt}
use Rattle.noc_packet.specs.Set.{has_bit}
use Rattle.noc_columns.specs.Grants.{AreGranted, first_of}
use Rattle.noc_columns.specs.Picks.{channels_of}
use Rattle.noc_columns.proofs.grants.grant_all.Given as goal

abbrev pub invariant-loop-rest : goal.invariant-loop-rest
invariant-loop-rest l = record {
  size : length l.requests ≡ 65;
  part : (k : ℕ) → has_bit l.rest k ≡ true → has_bit l.outs k ≡ true;
  granted : AreGranted (channels_of l.table.ports) l.table.ports.links.vcs l.router (λ o. has_bit l.outs o && not (has_bit l.rest o)) (λ o. slice_index l.fn.requests o) (λ o. slice_index l.fn.turn o) l.granted l.fn.grants l.grants;
  few : (o : ℕ) → has_bit l.rest o ≡ true → l.grants.count ≤ l.fn.grants.count + o;
  most : l.grants.count ≤ l.fn.grants.count + 64;
  left : (o : ℕ) → (has_bit l.outs o && not (has_bit l.rest o)) ≡ false → slice_index l.turn o ≡ slice_index l.fn.turn o;
  turned : (o k i : ℕ) → (has_bit l.outs o && not (has_bit l.rest o)) ≡ true → has_bit (first_of (λ x. slice_index l.fn.requests x) (λ x. slice_index l.fn.turn x) o) k ≡ true → i < 64 → has_bit (slice_index l.turn o) i ≡ nat_lt k i;
  answered : (o : ℕ) → (has_bit l.outs o && not (has_bit l.rest o)) ≡ true → slice_index l.requests o ≡ 0;
  unread : (o : ℕ) → (has_bit l.outs o && not (has_bit l.rest o)) ≡ false → slice_index l.requests o ≡ slice_index l.fn.requests o;
}

abbrev pub decreases-loop-rest : goal.decreases-loop-rest
decreases-loop-rest l = l.rest
