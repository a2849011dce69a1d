mod Artifacts
