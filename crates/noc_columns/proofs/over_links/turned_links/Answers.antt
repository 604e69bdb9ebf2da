use Rattle.noc_columns.proofs.over_links.turned_links.Goals as goal

pub returns : goal.returns
returns c = λ j r in_group few i. record { flits = c.turned_four.ensures j r in_group few i; tails = c.turned_four-2.ensures j r in_group few i; credits = c.turned_four-3.ensures j r in_group few i }
