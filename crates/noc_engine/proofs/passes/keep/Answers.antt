use Rattle.std.proofs.Common.{◌≡◌, ℕ, ◌<◌, ◌∙◌, List, arith, length, sym}
use Rattle.std.proofs.lemmas.Grind.{same_number_lists}
use Rattle.noc_columns.specs.Words.{word}
use Rattle.noc_columns.specs.declared.channels.Links.{Links}
use Rattle.noc_engine.proofs.passes.keep.Goals as goal

same-words : (a b : List ℕ) (n : ℕ) → n ≡ 72 → length a ≡ 72 → length b ≡ 72 → ((k : ℕ) → k < n → word k a ≡ word k b) → a ≡ b
same-words a b n all long also same = same_number_lists a b (long ∙ sym also) (λ k l. same k (omega (arith, l, long, all)))

same-links : (a b : Links (List ℕ)) → a.flits ≡ b.flits → a.tails ≡ b.tails → a.credits ≡ b.credits → a ≡ b
same-links a b x y z = λ i. record { flits = x i; tails = y i; credits = z i }

pub returns : goal.returns
returns c =
    let to = c.loop-i.to in
    let from = c.args.from.now in
    let inv = c.loop-i.invariant in
    let all : c.loop-i.i ≡ 72 = omega arith in
    same-links to from
    (same-words to.flits from.flits c.loop-i.i all inv.flits_size inv.from_flits inv.flits)
    (same-words to.tails from.tails c.loop-i.i all inv.tails_size inv.from_tails inv.tails)
    (same-words to.credits from.credits c.loop-i.i all inv.credits_size inv.from_credits inv.credits)
