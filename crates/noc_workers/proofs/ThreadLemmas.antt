-- Lists of workers that may run, and that have run.
use Rattle.std.proofs.Common.{◌≡◌, ◌∙◌, ◌/◌, ◌+◌, ◌<◌, ◌≤◌, ℕ, true, List, [], ◌∷◌, ◌++◌, length, take, drop, get_or, ap, ap₂, arith, Vec, Global, Result, Ok, Err, IfOk, sym, subst}
use Rattle.std.specs.Prelude.{IsOkAnd}
use Rattle.std.proofs.lemmas.List.{length_push}
use Rattle.noc_workers.specs.Cuts.{AllHaveRun, AllMayRun, AreHalves, HaveRunStretch, MayRunStretch}
use Rattle.noc_workers.specs.Rounds.{Start}
use Rattle.noc_workers.specs.Workers.{HasCome, IsWorkerAt, MayRunFrom}
use Rattle.noc_exchange.specs.declared.halves.NotRun.{NotRun}
use Rattle.noc_workers.specs.declared.fork.Stretch.{Stretch}
use Rattle.noc_workers.specs.declared.worker.Worker.{Worker}
use Rattle.noc_workers.proofs.SideLemmas.{side-append, side-first, side-split}

-- there is room again for the one that was taken out
pub room-left : (less many cap room : ℕ) → less + 1 ≡ many → room ≡ cap → many ≤ cap → less < room
room-left less many cap room e f l = omega (arith, e, f, l)

-- ---- the last worker
module _ (start : Start) (done more from to : ℕ) where
  -- no worker
  pub run-none : (workers after : List Worker) (n m : ℕ) → n ≡ length workers → n ≡ 0 → m ≡ length after → m ≡ 0 → AllMayRun start done more from to workers → AllHaveRun start (done + more) from to after
  run-none [] [] n m a b c d h = h
  run-none workers (w ∷ after) n m a b c d h = absurd (omega (arith, c, d))
  run-none (w ∷ workers) after n m a b c d h = absurd (omega (arith, a, b))

  -- the one worker of a list
  pub last-may : (workers before : List Worker) (worker : Worker) → workers ≡ before ++ worker ∷ [] → length workers ≤ 1 → AllMayRun start done more from to workers → MayRunFrom start done more worker
  last-may workers [] worker e few h = (subst (AllMayRun start done more from to) e h).1
  last-may workers (w ∷ ws) worker e few h = absurd (omega (arith, few, ap length e, length_push ws worker))

  pub last-run : (workers before after : List Worker) (worker ended : Worker) → workers ≡ before ++ worker ∷ [] → length workers ≤ 1 → after ≡ before ++ ended ∷ [] → HasCome start more worker ended
      → AllMayRun start done more from to workers → AllHaveRun start (done + more) from to after
  last-run workers [] after worker ended e few f come h =
      let may : AllMayRun start done more from to (worker ∷ []) = subst (AllMayRun start done more from to) e h in
      subst (AllHaveRun start (done + more) from to) (sym f) (
        come.blocks.first_is ∙ may.0,
        (λ whole. come.whole whole done may.1),
        ap (λ k. from + k) come.blocks.blocks_are ∙ may.2,
      )
  last-run workers (w ∷ ws) after worker ended e few f come h = absurd (omega (arith, few, ap length e, length_push ws worker))

-- ---- halves
pub both-run : (start : Start) (here there : Stretch) (ra rb r : Result (Vec Worker Global) NotRun) → AreHalves here there → IfOk ra (λ v. HaveRunStretch start here v.items) → IfOk rb (λ v. HaveRunStretch start there v.items)
    → IfOk r (λ v. IsOkAnd ra (λ a. IsOkAnd rb (λ b. v.items ≡ a.items ++ b.items))) → IfOk r (λ v. AllHaveRun start (here.done + here.more) here.from there.to v.items)
both-run start here there (Err x) rb (Ok v) halves a b k = absurd k
both-run start here there (Ok u) (Err x) (Ok v) halves a b k = absurd k
both-run start here there ra rb (Err x) halves a b k = tt
both-run start here there (Ok u) (Ok x) (Ok v) halves a b k =
    subst (AllHaveRun start (here.done + here.more) here.from there.to) (sym k)
    (side-append (λ one. one.is_whole ≡ true → IsWorkerAt start (here.done + here.more) one) here.from there.from there.to u.items x.items
    (subst (λ m. AllHaveRun start (here.done + here.more) here.from m u.items) halves.meet a)
    (subst (λ n. AllHaveRun start n there.from there.to x.items) (ap₂ (λ done more. done + more) halves.done_alike halves.more_alike) b))

module _ (start : Start) (s : Stretch) (n : ℕ) (workers first second : List Worker) (one : Worker) (here : first ≡ take n workers) (there : second ≡ drop n workers) (some : 0 < length second) (is : one ≡ get_or second 0 one)
    (may : MayRunStretch start s workers) where
  split : (mid : ℕ) × AllMayRun start s.done s.more s.from mid (take n workers) × AllMayRun start s.done s.more mid s.to (drop n workers)
  split = side-split (MayRunFrom start s.done s.more) n s.from s.to workers may

  rest : AllMayRun start s.done s.more split.0 s.to second
  rest = subst (AllMayRun start s.done s.more split.0 s.to) (sym there) split.2

  middle : one.tile.first ≡ split.0
  middle = ap (λ (w : Worker). w.tile.first) is ∙ side-first (MayRunFrom start s.done s.more) split.0 s.to second one some rest

  pub second-may : MayRunStretch start (record s { from = one.tile.first }) second
  second-may = subst (λ m. AllMayRun start s.done s.more m s.to second) (sym middle) rest

  pub first-may : MayRunStretch start (record s { to = one.tile.first }) first
  first-may = subst (λ m. AllMayRun start s.done s.more s.from m first) (sym middle) (subst (AllMayRun start s.done s.more s.from split.0) (sym here) split.1)

pub first-some : (count len : ℕ) → 1 < count → len ≡ count / 2 → 0 < len
first-some count len l e = omega (arith, l, e)

pub second-some : (count many len : ℕ) → 1 < count → count ≡ many → len + count / 2 ≡ many → 0 < len
second-some count many len l e f = omega (arith, l, e, f)
