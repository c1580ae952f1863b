use Rattle.std.proofs.Common.{◌≡◌, [], ◌∷◌, ◌++◌, ap, refl, ◌∙◌}
use Rattle.std.proofs.lemmas.Cmp.{on_total}
use Rattle.commonware_ordered.proofs.Halves.{put_in_run, put_in_tree, run_is_all, run_is_none}
use Rattle.commonware_map.proofs.sorted_entries.SortedEntries.insert_among.Goals as goal
use Rattle.std.proofs.Common.{arith}
use Rattle.std.proofs.lemmas.Grind.{common_steps}
use Rattle.commonware_map.proofs.sorted_entries.SortedEntries.insert_among.Goals.{then-is_empty+in-Greater+in_ok-move_into-in-Greater, else-is_empty}

pub returns-in-Less-clause-put : goal.returns-in-Less-clause-put
returns-in-Less-clause-put g c =
    let below = rw c.in-Less.is at c.last_to.ensures in
    put_in_run c.self.inside.run c.self.inside.tree.entries c.args.self.now c.self.view_is (on_total (λ p. p.0) g.met.K.Ord.total) c.push.new.self (c.args.key, c.args.value) (c.if-is_empty.ensures.0 refl) below
    (c.in_ok-push-in-Less.ensures.pushed ∙ ap (λ l. l ++ (c.args.key, c.args.value) ∷ []) c.reserve_first.ensures)

pub returns-clause-put : goal.returns-clause-put
returns-clause-put g c =
    let run = c.if-is_empty.self-inside.run in
    let tree = c.if-is_empty.self-inside.tree.entries in
    let put_whole = λ (whole : run ++ tree ≡ c.args.self.now) (none : run ≡ []). put_in_tree run tree c.args.self.now whole (λ p q. g.K.Ord.cmp p.0 q.0) c.put.new.tree.entries (c.args.key, c.args.value) c.put.result none c.put.ensures.put in
    elim c.if-is_empty.branch [
      | then-is_empty+in-Greater+in_ok-move_into-in-Greater w ↦ (
          let none : run ≡ [] = ap (λ i. i.run) w.self-inside-is ∙ w.move_into.ensures.left in
          let moved : tree ≡ c.self.inside.run = ap (λ i. i.tree.entries) w.self-inside-is ∙ w.in_ok-move_into-in-Greater.ensures.moved in
          put_whole (ap (λ l. l ++ tree) none ∙ (moved ∙ run_is_all c.self.inside.run c.self.inside.tree.entries c.args.self.now c.self.view_is (w.if-is_empty.ensures.0 refl))) none)
      | else-is_empty w ↦ (
          let same_run : run ≡ c.self.inside.run = ap (λ i. i.run) w.self-inside-is in
          let same_tree : tree ≡ c.self.inside.tree.entries = ap (λ i. i.tree.entries) w.self-inside-is in
          let none : c.self.inside.run ≡ [] = run_is_none c.self.inside.run c.self.inside.tree.entries c.args.self.now c.self.view_is c.self.invariant (λ e. cc (w.if-is_empty.ensures.1 e)) in
          put_whole ((λ j. same_run j ++ same_tree j) ∙ c.self.view_is) (same_run ∙ none))
    ]

pub invariant_of-self-in-Less : goal.invariant_of-self-in-Less
invariant_of-self-in-Less g c = grind (arith, common_steps)

pub returns-in_err-move_into-in-Greater-clause-prefix : goal.returns-in_err-move_into-in-Greater-clause-prefix
returns-in_err-move_into-in-Greater-clause-prefix g c = grind (arith, common_steps)

pub returns-clause-prefix : goal.returns-clause-prefix
returns-clause-prefix g c = grind (arith, common_steps)
