-- What contracts see of the adapters: how often each has failed, and what it stands on.
use Rattle.std.specs.Prelude.{ℕ, Option}
use Rattle.sz_real.specs.declared.clock.RealClock.{RealClock}
use Rattle.sz_real.specs.declared.connection.Limits.{Limits}
use Rattle.sz_real.specs.declared.disk.FileDisk.{FileDisk}
use Rattle.sz_real.specs.declared.entropy.RealEntropy.{RealEntropy}
use Rattle.sz_real.specs.declared.folder.RealFolder.{RealFolder}
use Rattle.sz_real.specs.declared.listener.RealListener.{RealListener}
use Rattle.sz_real.specs.declared.net.RealNet.{RealNet}
use Rattle.sz_real.specs.declared.sink.RealSink.{RealSink}

-- how often each has failed
abbrev pub folder_faults : {R F D : Type 0} → RealFolder R F D → ℕ
folder_faults folder = folder.faults

abbrev pub disk_faults : {R F D : Type 0} → FileDisk R F D → ℕ
disk_faults disk = disk.faults

abbrev pub sink_faults : {W : Type 0} → RealSink W → ℕ
sink_faults sink = sink.faults

abbrev pub clock_faults : {R : Type 0} → RealClock R → ℕ
clock_faults clock = clock.faults

abbrev pub entropy_faults : {R : Type 0} → RealEntropy R → ℕ
entropy_faults entropy = entropy.faults

abbrev pub net_faults : {R S L : Type 0} → RealNet R S L → ℕ
net_faults net = net.faults

abbrev pub listener_faults : {R S L : Type 0} → RealListener R S L → ℕ
listener_faults listener = listener.faults

-- the writer of a sink
abbrev pub sink_writer : {W : Type 0} → RealSink W → W
sink_writer sink = sink.writer

-- how long connections may last
abbrev pub net_limits : {R S L : Type 0} → RealNet R S L → Limits
net_limits net = net.limits

abbrev pub listener_limits : {R S L : Type 0} → RealListener R S L → Limits
listener_limits listener = listener.limits

-- what listens, if anything does
abbrev pub listening : {R S L : Type 0} → RealListener R S L → Option L
listening listener = listener.listening
