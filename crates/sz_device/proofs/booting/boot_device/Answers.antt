use Rattle.std.proofs.Common.{ap, arith, refl, rules}
use Rattle.std.proofs.lemmas.Grind.{common_steps}
use Rattle.std.proofs.lemmas.Result.{err_from_is_err_and}
use Rattle.sz_commands.specs.Objects.{entropy_seen, folder_seen, net_seen}
use Rattle.sz_device.proofs.Moment.{moment-seen}
use Rattle.sz_device.proofs.Refusing.{unblamed}
use Rattle.sz_device.proofs.booting.boot_device.Goals as goal
use Rattle.sz_device.specs.Booted.{random_seen}

pub returns-in_default : goal.returns-in_default
returns-in_default g c = record {
  may = (refl, record { folder = refl; net = refl; entropy = refl }, c.in_default.ensures.refused);
  disk = unblamed (g.D.Disk.seen c.args.disk.now).faults;
  clock = first_of (search rules, grind (arith, common_steps));
}

pub returns-in_err-check_size : goal.returns-in_err-check_size
returns-in_err-check_size g c =
    let p = err_from_is_err_and c.from_residual.result c.from_residual.ensures.1 in
    rw (p.1, p.2, c.in_err-check_size.ensures.told) (record {
      may = (
        refl,
        c.in_err-check_size.ensures.refused,
        refl,
        record { folder = refl; net = refl; entropy = refl },
        (c.in-Ok.time, c.in-Ok.ensures.ok),
      );
      disk = unblamed (g.D.Disk.seen c.args.disk.now).faults;
      clock = c.in-Ok.ensures.cause;
    })

pub returns : goal.returns
returns g c =
    let see = λ (net : g.row.N.Denot). net_seen (g.N.Net.faults net) (g.N.Net.traffic net) in
    let files = λ (folder : g.row.F.Denot). folder_seen (g.F.Folder.faults folder) (g.F.Folder.files folder) in
    let random = λ (entropy : g.row.E.Denot). entropy_seen (g.E.Entropy.faults entropy) (g.E.Entropy.bytes entropy) in
    record {
      may = (
        c.in-Ok.time,
        c.in-Ok.ensures.ok,
        c.in_ok-check_size.ensures.ok,
        record {
          boot_ok = c.boot.ensures.boot_ok;
          found = c.boot.ensures.found;
          moment =
              moment-seen see c.in-Ok.time c.boot.result (random_seen (random c.args.entropy.now)) (random_seen (random c.boot.new.entropy))
              c.args.net.now c.boot.new.net c.boot.ensures.moment;
          quiet = λ early. (c.boot.ensures.early early).0;
          asks_nothing = λ early. let same = c.boot.ensures.early early in record {
            folder = ap files same.2;
            net = ap see same.1;
            entropy = ap random same.3;
          };
          lost = c.boot.ensures.lost;
          files = c.boot.ensures.unchanged;
        },
      );
      disk = c.boot.ensures.disk_fault;
      clock = c.in-Ok.ensures.cause;
    }
