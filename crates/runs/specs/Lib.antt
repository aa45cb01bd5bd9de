-- In the order to read them: operations one after the other, which bytes their answers say were accepted and delivered, what the status
-- register says, what the guest is told, the ports that runs reach.
pub mod Run
pub mod Accepted
pub mod Status
pub mod Told
pub mod Reachable
pub mod Reached
pub mod Places
