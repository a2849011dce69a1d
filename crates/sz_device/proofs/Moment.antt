-- What a boot says of its objects, as a command sees them.
use Rattle.std.proofs.Common.{ap, inl, inr}
use Rattle.sz_agent.specs.Boot.{IsMoment, Random}
use Rattle.sz_agent.specs.declared.report.Report.{Report}
use Rattle.sz_base.specs.declared.moment.Seconds.{Seconds}

-- the moment, by what is seen of the network
pub moment-seen : {N M : Type 0} (see : N → M) (when : Seconds) (report : Report) (before now : Random) (net_before net_now : N)
    → IsMoment when report before now net_before net_now → IsMoment when report before now (see net_before) (see net_now)
moment-seen see when report before now net_before net_now is = record {
  time = is.time;
  nonce = elim is.nonce [
    | inl drawn ↦ inl drawn
    | inr early ↦ inr (record {
      no_nonce = early.no_nonce;
      random = early.random;
      net = ap see early.net;
      visits = early.visits;
    })
  ];
}
