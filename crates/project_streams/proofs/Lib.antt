mod Even
mod Ports
mod Alone
mod Equal
mod Worked
