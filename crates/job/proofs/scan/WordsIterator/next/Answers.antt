-- A word lies between what stands before it and what is left.
use Rattle.std.proofs.Common.{rules, ◌≡◌, ◌≤◌, ℕ, List, ◌++◌, length, take, drop, ◌+◌, ◌-◌, arith, length-drop}
use Rattle.std.proofs.lemmas.List.{take-append-drop, drop-drop, take_all}
use Rattle.job.proofs.scan.WordsIterator.next.Goals as goal

parted : (l : List ℕ) (s e : ℕ) → s ≤ e → e ≤ length l → l ≡ take s l ++ (take (e - s) (drop s l) ++ take (length l - e) (drop e l))
parted l s e p q =
    let a : take s l ++ drop s l ≡ l = take-append-drop s l in
    let b : take (e - s) (drop s l) ++ drop (e - s) (drop s l) ≡ drop s l = take-append-drop (e - s) (drop s l) in
    let d : drop (e - s) (drop s l) ≡ drop (s + (e - s)) l = drop-drop (e - s) s l in
    let n : s + (e - s) ≡ e = omega arith in
    let f : take (length l - e) (drop e l) ≡ drop e l = take_all (length l - e) (drop e l) (omega (arith, length-drop e l)) in
    cc

pub returns-clause-steps : goal.returns-clause-steps
returns-clause-steps c =
    let s = c.in_ok-start.start in
    let e = s + 1 + c.unwrap_or-more.result in
    (take s c.args.self.now.0.now, parted c.args.self.now.0.now s e (omega arith) (search rules))
