use Rattle.std.proofs.Common.{rules}
use Rattle.std.proofs.lemmas.List.Sorted.{IsNonDecreasingBy-from_sort_by_key, answers_always}
use Rattle.sz_dns.specs.declared.service.Candidate.{Candidate}
use Rattle.sz_dns.proofs.service.in_order.Goals as goal

pub returns : goal.returns
returns c =
    let same = rw c.into_vec-ordered.ensures at c.in_ok-sort_by_key.ensures.permutation in
    let stable = rw c.into_vec-ordered.ensures at c.in_ok-sort_by_key.ensures.stable in
    record {
      same = same;
      ascending = IsNonDecreasingBy-from_sort_by_key (λ (candidate : Candidate). candidate.priority) _ c.in_ok-sort_by_key.ensures.sorted
          (λ a r q k. search rules);
      stable = stable (λ (candidate : Candidate). candidate.priority) (answers_always _ _ _ (λ f a r q k. search rules));
    }
